-- What the loop over accesses needs.
use Rattle.std.proofs.Common.{◌≡◌, ℕ, ◌+◌, ◌≤◌, List, [], ◌∷◌, ◌++◌, Ok, refl, sym, ◌∙◌, ap, subst, arith}
use Rattle.wf_val.specs.Arguments.{Answer}
use Rattle.wf_val.specs.ValueTree.{ValueTree}
use Rattle.wf_val.specs.declared.fault.EvalFault.{EvalFault}
use Rattle.wf_template.specs.ChainSeen.{accessed, built}
use Rattle.wf_template.specs.ExprTree.{ExprTree}
use Rattle.wf_template.specs.ExprCounts.{expr_count}
use Rattle.wf_template.specs.ExprSeen.{expr_tree}
use Rattle.wf_template.specs.declared.chain.Access.{Access}
use Rattle.wf_template.proofs.ChainLemmas.{key_count}
use Rattle.wf_eval_expr.specs.Seen.{accessed_run, chained}
use Rattle.wf_look.specs.Meets.{MeetsFault}
use Rattle.wf_look.specs.Outcomes.{Outcome, turned}
use Rattle.wf_look.specs.Accesses.{member_row, index_row}
use Rattle.wf_look.specs.Told.{Told}
use Rattle.wf_eval_expr.specs.Value.{value}
use Rattle.wf_eval_expr.proofs.Grow.{then_run-grows, value-grows, handed, turned_fault}

accessed_is : (l : Told) (b : ExprTree) (a : Access) (n : ℕ) → value l (accessed b a) n ≡ accessed_run l a (value l b n)
accessed_is l b (Access.Member name soft) n = refl
accessed_is l b (Access.Index key soft) n = refl

-- the value of accesses on a base is what they make of its value
pub built_is : (l : Told) (b : ExprTree) (rest : List Access) (n : ℕ) → value l (built b rest) n ≡ chained l rest (value l b n)
built_is l b [] n = refl
built_is l b (a ∷ rest) n = accessed_is l (built b rest) a n ∙ ap (accessed_run l a) (built_is l b rest n)

pub chained_snoc : (l : Told) (rest : List Access) (a : Access) (o : Outcome) →
    chained l (rest ++ a ∷ []) o ≡ chained l rest (accessed_run l a o)
chained_snoc l [] a o = refl
chained_snoc l (x ∷ rest) a o = ap (accessed_run l x) (chained_snoc l rest a o)

access-grows : (l : Told) (a : Access) (o : Outcome) (n : ℕ) → n ≤ o.1 → n ≤ (accessed_run l a o).1
access-grows l (Access.Member name soft) o n le = le
access-grows l (Access.Index key soft) o n le =
    then_run-grows n o (λ t m. turned (index_row soft t) (value l (expr_tree key.now) m)) le (λ t m. value-grows l (expr_tree key.now) m)

pub chained-grows : (l : Told) (rest : List Access) (o : Outcome) (n : ℕ) → n ≤ o.1 → n ≤ (chained l rest o).1
chained-grows l [] o n le = le
chained-grows l (a ∷ rest) o n le = access-grows l a (chained l rest o) n (chained-grows l rest o n le)

access_fault : (l : Told) (a : Access) (o : Outcome) (f : EvalFault) (n : ℕ) → MeetsFault f o n → MeetsFault f (accessed_run l a o) n
access_fault l (Access.Member name soft) o f n met = turned_fault (member_row name.now soft) o f n met
access_fault l (Access.Index key soft) o f n met =
    handed o (λ t m. turned (index_row soft t) (value l (expr_tree key.now) m)) (λ t m. value-grows l (expr_tree key.now) m) f n met

pub chained_fault : (l : Told) (rest : List Access) (o : Outcome) (f : EvalFault) (n : ℕ) → MeetsFault f o n →
    MeetsFault f (chained l rest o) n
chained_fault l [] o f n met = met
chained_fault l (a ∷ rest) o f n met = access_fault l a (chained l rest o) f n (chained_fault l rest o f n met)

-- a fault of what the accesses stand on
pub fault_of_start : (l : Told) (b : ExprTree) (rest : List Access) (e : ExprTree) (n : ℕ) (f : EvalFault) (k : ℕ) → built b rest ≡ e →
    MeetsFault f (value l b n) k → MeetsFault f (value l e n) k
fault_of_start l b rest e n f k whole met =
    subst (λ x. MeetsFault f (value l x n) k) whole (rw (built_is l b rest n) (chained_fault l rest (value l b n) f k met))

-- a fault of an access
pub fault_of_access : (l m : Told) (rest whole : List Access) (a : Access) (t : ValueTree) (n : ℕ) (f : EvalFault) (k : ℕ) (o : Outcome) →
    whole ≡ rest ++ a ∷ [] → m ≡ l → chained l whole (Ok t, n) ≡ o → MeetsFault f (accessed_run m a (Ok t, n)) k → MeetsFault f o k
fault_of_access l m rest whole a t n f k o split same so_far met =
    subst (λ x. MeetsFault f x k) so_far
    (subst (λ xs. MeetsFault f (chained l xs (Ok t, n)) k) (sym split)
    (rw (chained_snoc l rest a (Ok t, n)) (chained_fault l rest (accessed_run l a (Ok t, n)) f k
    (subst (λ x. MeetsFault f (accessed_run x a (Ok t, n)) k) same met))))

pair_is : (o : Outcome) (a : Answer) (k : ℕ) → o.0 ≡ a → o.1 ≡ k → (a, k) ≡ o
pair_is o a k e w = subst (λ x. (x, k) ≡ o) e (subst (λ y. (o.0, y) ≡ o) w refl)

-- the value of what the accesses stand on
pub start_value : (l : Told) (b : ExprTree) (rest : List Access) (e : ExprTree) (n : ℕ) (t : ValueTree) (k : ℕ) → built b rest ≡ e →
    ((value l b n).0 ≡ Ok t) × ((value l b n).1 ≡ k) → chained l rest (Ok t, k) ≡ value l e n
start_value l b rest e n t k whole met =
    subst (λ x. chained l rest (Ok t, k) ≡ value l x n) whole
    (ap (chained l rest) (pair_is (value l b n) (Ok t) k met.0 met.1) ∙ sym (built_is l b rest n))

-- the value of an access
pub access_value : (l m : Told) (rest whole : List Access) (a : Access) (t : ValueTree) (n : ℕ) (u : ValueTree) (k : ℕ) (o : Outcome) →
    whole ≡ rest ++ a ∷ [] → m ≡ l → chained l whole (Ok t, n) ≡ o →
    ((accessed_run m a (Ok t, n)).0 ≡ Ok u) × ((accessed_run m a (Ok t, n)).1 ≡ k) → chained l rest (Ok u, k) ≡ o
access_value l m rest whole a t n u k o split same so_far met =
    ap (chained l rest) (pair_is (accessed_run m a (Ok t, n)) (Ok u) k met.0 met.1)
    ∙ (ap (λ x. chained l rest (accessed_run x a (Ok t, n))) same
    ∙ (sym (chained_snoc l rest a (Ok t, n)) ∙ (ap (λ xs. chained l xs (Ok t, n)) (sym split) ∙ so_far)))

-- no access is left
pub through : (l : Told) (whole : List Access) (t : ValueTree) (n : ℕ) (o : Outcome) → whole ≡ [] → chained l whole (Ok t, n) ≡ o →
    (o.0 ≡ Ok t) × (o.1 ≡ n)
through l whole t n o none so_far =
    let e : (Ok t, n) ≡ o = subst (λ xs. chained l xs (Ok t, n) ≡ o) none so_far in
    (ap (λ p. p.0) (sym e), ap (λ p. p.1) (sym e))

-- what the keys of accesses count
abbrev pub keys_count : List Access → ℕ
keys_count [] = 0
keys_count (a ∷ rest) = key_count a + keys_count rest

pub keys_count-snoc : (rest : List Access) (a : Access) → keys_count (rest ++ a ∷ []) ≡ keys_count rest + key_count a
keys_count-snoc [] a = omega arith
keys_count-snoc (x ∷ rest) a = omega (arith, keys_count-snoc rest a)

key_and_base : (b : ExprTree) (a : Access) → key_count a + expr_count b ≤ expr_count (accessed b a)
key_and_base b (Access.Member name soft) = omega arith
key_and_base b (Access.Index key soft) = omega arith

pub keys_le_built : (b : ExprTree) (rest : List Access) → keys_count rest + expr_count b ≤ expr_count (built b rest)
keys_le_built b [] = omega arith
keys_le_built b (a ∷ rest) = omega (arith, keys_le_built b rest, key_and_base (built b rest) a)
