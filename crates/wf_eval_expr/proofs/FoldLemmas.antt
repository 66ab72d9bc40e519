-- What is made of the arguments of a call as their values come is what its row makes of all of them.
use Rattle.std.proofs.Common.{◌≡◌, ℕ, suc, ◌<◌, ◌≤◌, List, [], ◌∷◌, ◌++◌, Ok, Err, length, get_or, refl, sym, ◌∙◌, ap, subst, le_refl}
use Rattle.std.proofs.lemmas.List.{drop_all}
use Rattle.wf_val.specs.Arguments.{Answer, Gives, given, bounded}
use Rattle.wf_val.specs.ValueTree.{ValueTree, Fits}
use Rattle.wf_val.specs.declared.fault.EvalFault.{EvalFault}
use Rattle.wf_template.specs.ExprSeen.{expr_tree}
use Rattle.wf_template.specs.declared.expr.Expr.{Expr}
use Rattle.wf_look.specs.Args.{args_tree}
use Rattle.wf_look.specs.Meets.{Meets, MeetsFault}
use Rattle.wf_look.specs.Outcomes.{Outcome, Run, go_on, turned, all_after}
use Rattle.wf_look.specs.Told.{Told}
use Rattle.wf_look.specs.Rows.{fitted}
use Rattle.wf_eval_expr.specs.Folded.{folded}
use Rattle.wf_eval_expr.specs.Value.{value, runs}
use Rattle.wf_eval_expr.proofs.Fitting.{IsGood, AreFitting}
use Rattle.wf_eval_expr.proofs.Grow.{AreGrowing, runs-grow, then_run-grows, handed, turned_fault}
use Rattle.wf_eval_expr.proofs.Loops.{from_on, from_on-item}
use Rattle.wf_eval_expr.proofs.Meeting.{of_memory, meets}

pub folded-grows : {S : Type 0} (step : ValueTree → S → S) (rs : List Run) → AreGrowing rs → (s : S) (n : ℕ) →
    n ≤ (folded step rs s n).1
folded-grows step [] grow s n = le_refl n
folded-grows step (r ∷ rs) grow s n = then_run-grows n (r n) (λ t m. folded step rs (step t s) m) (grow.0 n)
    (λ t m. folded-grows step rs grow.1 (step t s) m)

-- where each step keeps what the values so far have made, the answer at the end is the row of all
pub folded-is : {S : Type 0} (step : ValueTree → S → S) (answer : S → Answer) (row : List ValueTree → Answer)
    (IsOf : S → List ValueTree → Type 0) →
    ((s : S) (ts : List ValueTree) (t : ValueTree) → Fits t → IsOf s ts → IsOf (step t s) (ts ++ t ∷ [])) →
    ((s : S) (ts : List ValueTree) → IsOf s ts → answer s ≡ row ts) →
    (rs : List Run) → AreFitting rs → (s : S) (ts : List ValueTree) (n : ℕ) → IsOf s ts →
    turned answer (folded step rs s n) ≡ turned row (all_after rs ts n)
folded-is step answer row IsOf keeps ends [] fit s ts n is = ap (λ a. (a, n)) (ends s ts is)
folded-is {S} step answer row IsOf keeps ends (r ∷ rs) fit s ts n is =
    go (λ t k fits. folded-is step answer row IsOf keeps ends rs fit.1 (step t s) (ts ++ t ∷ []) k (keeps s ts t fits is))
    (r n).0 (r n).1 (fit.0 n)
  where
    go : ((t : ValueTree) (k : ℕ) → Fits t → turned answer (folded step rs (step t s) k) ≡ turned row (all_after rs (ts ++ t ∷ []) k)) →
        (a : Answer) (k : ℕ) → IsGood a → turned answer (go_on a k (λ t q. folded step rs (step t s) q))
        ≡ turned row (go_on a k (λ t q. all_after rs (ts ++ t ∷ []) q))
    go rest (Ok t) k good = rest t k (good t refl)
    go rest (Err f) k good = refl

-- ---- the loop over the arguments

-- a fault of an argument is the whole's
pub fault_folded : {S : Type 0} (step : ValueTree → S → S) (answer : S → Answer) (start : S) (l m : Told) (xs : List Expr) (i : ℕ)
    (x : Expr) (s : S) (n : ℕ) (f : EvalFault) (k n0 : ℕ) (whole : Outcome) →
    turned answer (folded step (runs l (args_tree xs)) start n0) ≡ whole →
    i < length xs → x ≡ get_or xs i x → m ≡ l →
    folded step (runs l (from_on xs i)) s n ≡ folded step (runs l (args_tree xs)) start n0 →
    MeetsFault f (value m (expr_tree x) n) k → MeetsFault f whole k
fault_folded step answer start l m xs i x s n f k n0 whole is lt e same rest_is met =
    subst (λ o. MeetsFault f o k) is
    (turned_fault answer (folded step (runs l (args_tree xs)) start n0) f k
    (subst (λ o. MeetsFault f o k) rest_is
    (subst (λ es. MeetsFault f (folded step (runs l es) s n) k) (sym (from_on-item xs i x lt e))
    (handed (value l (expr_tree x) n) (λ t q. folded step (runs l (from_on xs (suc i))) (step t s) q)
    (λ t q. folded-grows step (runs l (from_on xs (suc i))) (runs-grow l (from_on xs (suc i))) (step t s) q) f k
    (subst (λ t. MeetsFault f (value t (expr_tree x) n) k) same met)))))

-- want of memory behind the value of an argument
pub memory_folded : {S : Type 0} (step : ValueTree → S → S) (answer : S → Answer) (start : S) (l m : Told) (xs : List Expr) (i : ℕ)
    (x : Expr) (s : S) (n k n0 : ℕ) (whole : Outcome) →
    turned answer (folded step (runs l (args_tree xs)) start n0) ≡ whole →
    i < length xs → x ≡ get_or xs i x → m ≡ l →
    folded step (runs l (from_on xs i)) s n ≡ folded step (runs l (args_tree xs)) start n0 →
    (value m (expr_tree x) n).1 ≡ k → MeetsFault EvalFault.Memory whole k
memory_folded step answer start l m xs i x s n k n0 whole is lt e same rest_is words =
    fault_folded step answer start l m xs i x s n EvalFault.Memory k n0 whole is lt e same rest_is
    (of_memory (value m (expr_tree x) n) k (rw words (le_refl k)))

-- no argument is left
pub folded_end : {S : Type 0} (step : ValueTree → S → S) (answer : S → Answer) (start : S) (l : Told) (xs : List Expr) (i : ℕ) (s : S)
    (n n0 : ℕ) (r : Answer) (whole : Outcome) →
    turned answer (folded step (runs l (args_tree xs)) start n0) ≡ whole →
    length xs ≤ i → folded step (runs l (from_on xs i)) s n ≡ folded step (runs l (args_tree xs)) start n0 →
    r ≡ answer s → Meets r whole n
folded_end step answer start l xs i s n n0 r whole is le rest_is end =
    let left : folded step (runs l (from_on xs i)) s n ≡ (Ok s, n) =
    ap (λ ys. folded step (runs l (args_tree ys)) s n) (drop_all i xs le) in
    subst (λ o. Meets r o n) (ap (turned answer) (sym left ∙ rest_is) ∙ is)
    (rw end (meets (answer s) (answer s, n) n (λ apart. refl) refl))

-- what a call gives at the end, where it may want memory, and is tested for its size
gives-fitted : (a r row : Answer) → Gives a row → r ≡ fitted a → Gives r (fitted row)
gives-fitted a r row gives is not = is ∙ ap fitted (gives (λ e. not (is ∙ ap fitted e)))

pub folded_fitted : {S : Type 0} (step : ValueTree → S → S) (answer : S → Answer) (start : S) (l : Told) (xs : List Expr) (i : ℕ) (s : S)
    (n n0 : ℕ) (a r : Answer) (whole : Outcome) →
    turned (λ q. fitted (answer q)) (folded step (runs l (args_tree xs)) start n0) ≡ whole →
    length xs ≤ i → folded step (runs l (from_on xs i)) s n ≡ folded step (runs l (args_tree xs)) start n0 →
    Gives a (answer s) → r ≡ fitted a → Meets r whole n
folded_fitted step answer start l xs i s n n0 a r whole is le rest_is gives end =
    let left : folded step (runs l (from_on xs i)) s n ≡ (Ok s, n) =
    ap (λ ys. folded step (runs l (args_tree ys)) s n) (drop_all i xs le) in
    subst (λ o. Meets r o n) (ap (turned (λ q. fitted (answer q))) (sym left ∙ rest_is) ∙ is)
    (meets r (fitted (answer s), n) n (gives-fitted a r (answer s) gives end) refl)
