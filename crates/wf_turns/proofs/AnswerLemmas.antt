-- No action is tried more often than it has answers, but for once: each attempt that another follows has an answer of its own.
use Rattle.std.proofs.Common.{◌≡◌, ℕ, zero, suc, ◌+◌, ◌≤◌, ◌<◌, Bool, true, false, cond, List, [], ◌∷◌, length, map, Option, Some, None}
use Rattle.std.proofs.Common.{inl, inr, refl, sym, ap, ◌∙◌, arith, true≢false, nat_eq, nat_lt, is_eq, Ordering, Less, Equal, Greater}
use Rattle.std.specs.Prelude.{if◌then◌else◌}
use Rattle.std.specs.List.{list_any}
use Rattle.std.specs.Ordering.{nat_cmp, ordering_then}
use Rattle.std.proofs.lemmas.Option.{none-some}
use Rattle.std.proofs.lemmas.Map.Steps.{le-length_from_below}
use Rattle.wf_val.specs.Address.{address_cmp}
use Rattle.wf_val.specs.declared.address.Address as named
use Rattle.wf_layers.specs.Address.{Address}
use Rattle.wf_layers.proofs.Basics.{two, or_first, or_second}
use Rattle.wf_retry.specs.declared.policy.Policy.{Policy}
use Rattle.wf_answers.specs.AnswerTree.{AnswerTree, find_answer, key_cmp, key_of}
use Rattle.wf_meant.specs.Last.{Answered, IsLast, answered_at, is_final, last_attempt}
use Rattle.wf_meant.specs.Last as calls
use Rattle.wf_known_laws.specs.ActionTree.{ActionTree, action_name}
use Rattle.wf_known_laws.specs.DefTree.{DefTree}
use Rattle.wf_meant.specs.Leaf.{BegunTree, acted, calling, tries_in}
use Rattle.wf_meant.specs.Environment.{Environment, facts_of}
use Rattle.wf_meant.specs.Look.{instance, name_in}
use Rattle.wf_meant.specs.Source.{tries_of}

-- ---- an answer is for its attempt

level : (a b : Bool) → is_eq (cond a Less (cond b Equal Greater)) ≡ true → b ≡ true
level true b e = absurd (true≢false (sym e))
level false true e = refl
level false false e = absurd (true≢false (sym e))

tied : (o : Ordering) (k m : ℕ) → is_eq (ordering_then o (nat_cmp k m)) ≡ true → nat_eq k m ≡ true
tied Less k m e = absurd (true≢false (sym e))
tied Equal k m e = level (nat_lt k m) (nat_eq k m) e
tied Greater k m e = absurd (true≢false (sym e))

abbrev numbers : List AnswerTree → List ℕ
numbers answers = map (λ a. a.attempt) answers

answered : (x : named.Address) (k : ℕ) (answers : List AnswerTree) (a : AnswerTree) → find_answer (x, k) answers ≡ Some a
    → list_any (nat_eq k) (numbers answers) ≡ true
answered x k [] a is = absurd (none-some a is)
answered x k (b ∷ rest) a is = elim (two (is_eq (key_cmp (x, k) (key_of b)))) [
  | inl t ↦ or_first (nat_eq k b.attempt) (list_any (nat_eq k) (numbers rest)) (tied (address_cmp x b.address) k b.attempt t)
  | inr f ↦
      or_second (nat_eq k b.attempt) (list_any (nat_eq k) (numbers rest))
      (answered x k rest a (sym (ap (λ (c : Bool). if c then Some b else find_answer (x, k) rest) f) ∙ is))
]

as_many : (answers : List AnswerTree) → length (numbers answers) ≡ length answers
as_many [] = refl
as_many (a ∷ rest) = ap suc (as_many rest)

-- ---- so there are as many answers

module _ (last : (policy : Policy) (answers : Answered) → IsLast policy answers (last_attempt policy answers))
    (kept : (policy : Policy) (answers : Answered) → length (calls.tries_of policy answers) ≡ last_attempt policy answers) where
  is_answered : (policy : Policy) (x : named.Address) (answers : List AnswerTree) (q : ℕ)
      → q < last_attempt policy (answered_at answers x) → list_any (nat_eq q) (0 ∷ numbers answers) ≡ true
  is_answered policy x answers zero lt = or_first (nat_eq 0 0) (list_any (nat_eq 0) (numbers answers)) refl
  is_answered policy x answers (suc k) lt =
      or_second (nat_eq (suc k) 0) (list_any (nat_eq (suc k)) (numbers answers)) (go (answered_at answers x (suc k)) refl)
    where
      go : (o : Option AnswerTree) → answered_at answers x (suc k) ≡ o → list_any (nat_eq (suc k)) (numbers answers) ≡ true
      go None none =
          absurd (true≢false (sym (ap (is_final policy (suc k)) none)
          ∙ (last policy (answered_at answers x)).least (suc k) (omega arith) lt))
      go (Some a) some = answered x (suc k) answers a some

  few_answered : (answers : List AnswerTree) (x : named.Address) (b : BegunTree) → length (tries_in answers x b) ≤ 1 + length answers
  few_answered answers x (acted d) = omega arith
  few_answered answers x (calling inputs policy) =
      omega (
        arith,
        kept policy (answered_at answers x),
        le-length_from_below (0 ∷ numbers answers) (last_attempt policy (answered_at answers x)) (is_answered policy x answers),
        as_many answers,
      )

  -- THE LAW
  pub tries_answered : (d : DefTree) (e : Environment) (x : Address) (b : BegunTree) (o : Option ActionTree)
      → length (tries_of d e o x b) ≤ 1 + length (facts_of e (name_in o)).answers
  tries_answered d e x b None = omega arith
  tries_answered d e x b (Some a) = few_answered (facts_of e (action_name a)).answers (instance d x) b
