-- The graph at the top is one whose status is told by steps.
use Rattle.std.proofs.Common.{◌≡◌, ℕ, ◌<◌, Bool, true, false, ◌||◌, cond, List, [], ◌∷◌, map, Some, inl, inr, refl, sym, ◌∙◌, ap}
use Rattle.std.proofs.Common.{subst, nat_eq}
use Rattle.std.proofs.Common.{eqb-true, true≢false}
use Rattle.std.proofs.lemmas.Bool.{eq-eqb}
use Rattle.std.specs.List.{AllByRecursion, find, list_any}
use Rattle.wf_layers.specs.Address.{Table}
use Rattle.wf_layers.specs.Definition.{Closed, Graph, IsDepth, Names, Need, has, has_own, holds, needs_in, needs_of}
use Rattle.wf_layers.specs.Definition as layers
use Rattle.wf_layers.specs.Seen.{Once}
use Rattle.wf_layers.proofs.Basics.{two, or_first, or_second, same_self, when, unless}
use Rattle.wf_def.specs.ActionTree.{ActionTree, action, action_number, actions_in, scope, ActionTrees, no_actions, action_then}
use Rattle.wf_def.specs.AllActions.{has_number}
use Rattle.wf_def.specs.Layered.{layered, layered_kind, need_of}
use Rattle.wf_def.specs.declared.after.After.{After}
use Rattle.wf_record.specs.Record.{Row}
use Rattle.wf_catalog.specs.Status.{graph_status}
use Rattle.wf_closing.specs.Judged.{status_by}
use Rattle.wf_closing.specs.Steps.{FallInside, JudgedTree, StandApart, after_of, judged_of}
use Rattle.wf_loops.proofs.HeldLemmas.{passed}

all_both : {X : Type 0} (P Q R : X → Type 0) (xs : List X) → ((x : X) → P x → Q x → R x) → AllByRecursion P xs → AllByRecursion Q xs
    → AllByRecursion R xs
all_both P Q R [] both ps qs = tt
all_both P Q R (x ∷ xs) both ps qs = (both x ps.0 qs.0, all_both P Q R xs both ps.1 qs.1)

not_one : (p q : Bool) → (p || q) ≡ false → p ≡ false
not_one true q off = off
not_one false q off = refl

not_other : (p q : Bool) → (p || q) ≡ false → q ≡ false
not_other true q off = absurd (true≢false off)
not_other false q off = off

flipped : (n m : ℕ) (b : Bool) → nat_eq n m ≡ b → nat_eq m n ≡ b
flipped n m true is = eq-eqb m n (sym (eqb-true n m is))
flipped n m false off = elim (two (nat_eq m n)) [
  | inl t ↦ absurd (true≢false (sym (eq-eqb n m (sym (eqb-true m n t))) ∙ off))
  | inr f ↦ f
]

-- ---- each action stands once in its graph

others : (rest : ActionTrees) (m : ℕ) → has (layered rest) m ≡ false
    → AllByRecursion (λ b. has_number (action_number b) (action [] m [] [] (scope no_actions) []) ≡ false) (actions_in rest)
others no_actions m off = tt
others (action_then (action name number pointer after kind tracked) rest) m off = (
  not_one (nat_eq number m) (holds (layered_kind kind) m)
      (not_one (nat_eq number m || holds (layered_kind kind) m) (has (layered rest) m) off),
  others rest m (not_other (nat_eq number m || holds (layered_kind kind) m) (has (layered rest) m) off),
)

apart : (graph : ActionTrees) → Once (layered graph) → StandApart (actions_in graph)
apart no_actions once = tt
apart (action_then (action name number pointer after kind tracked) rest) once =
    let first : ActionTree = action name number pointer after kind tracked in (
      when (nat_eq number number) (Some first) (find (has_number number) (actions_in rest)) (same_self number),
      all_both (λ b. has_number (action_number b) (action [] number [] [] (scope no_actions) []) ≡ false)
          (λ b. find (has_number (action_number b)) (actions_in rest) ≡ Some b)
          (λ b. find (has_number (action_number b)) (first ∷ actions_in rest) ≡ Some b)
          (actions_in rest)
          (λ b other found.
          unless (nat_eq (action_number b) number) (Some first) (find (has_number (action_number b)) (actions_in rest)) other ∙ found)
          (others rest number (once.1 number (or_first (nat_eq number number) (holds (layered_kind kind) number) (same_self number))))
          (apart rest once.3),
    )

-- ---- each waits for actions of its graph alone

own_any : (graph : ActionTrees) (p : ℕ) → has_own (layered graph) p ≡ true → list_any (has_number p) (actions_in graph) ≡ true
own_any no_actions p own = own
own_any (action_then (action name number pointer after kind tracked) rest) p own = elim (two (nat_eq number p)) [
  | inl t ↦ or_first (nat_eq p number) (list_any (has_number p) (actions_in rest)) (flipped number p true t)
  | inr f ↦
      or_second (nat_eq p number) (list_any (has_number p) (actions_in rest))
      (own_any rest p (sym (ap (λ b. b || has_own (layered rest) p) f) ∙ own))
]

each_need : (Q : ℕ → Type 0) (es : List After) → ((p : ℕ) → Names (map need_of es) p → Q p) → AllByRecursion Q (map (λ e. e.number) es)
each_need Q [] named = tt
each_need Q (e ∷ es) named = (named e.number (inl refl), each_need Q es (λ p is. named p (inr is)))

module _ (depth : ℕ → ℕ) where
  -- depths fall along the entries of what is held
  abbrev Fall : (ℕ → Bool) → (ℕ → List Need) → Type 0
  Fall held needs = (p a : ℕ) → held a ≡ true → Names (needs a) p → depth p < depth a

  module _ (number : ℕ) (after : List Need) (kind : layers.Kind) (rest : Graph) where
    fall_own : Fall (has (layers.add number after kind rest)) (needs_of (layers.add number after kind rest))
        → (p : ℕ) → Names after p → depth p < depth number
    fall_own fall p named =
        fall p number
        (or_first (nat_eq number number || holds kind number) (has rest number)
        (or_first (nat_eq number number) (holds kind number) (same_self number)))
        (subst (λ (ns : List Need). Names ns p)
        (sym (when (nat_eq number number) after (cond (holds kind number) (needs_in kind number) (needs_of rest number))
        (same_self number))) named)

    fall_behind : ((q : ℕ) → (nat_eq number q || holds kind q) ≡ true → has rest q ≡ false)
        → Fall (has (layers.add number after kind rest)) (needs_of (layers.add number after kind rest)) → Fall (has rest) (needs_of rest)
    fall_behind once fall p a there named =
        let away = passed number kind rest once a there in
        fall p a (or_second (nat_eq number a || holds kind a) (has rest a) there)
        (subst (λ (ns : List Need). Names ns p)
        (sym (unless (nat_eq number a) after (cond (holds kind a) (needs_in kind a) (needs_of rest a)) away.0
        ∙ unless (holds kind a) (needs_in kind a) (needs_of rest a) away.1)) named)

  inside : (whole graph : ActionTrees) → Once (layered graph) → Closed (layered graph) (layered whole)
      → Fall (has (layered graph)) (needs_of (layered graph))
      → AllByRecursion (λ a. AllByRecursion (λ n. (list_any (has_number n) (actions_in whole) ≡ true) × (depth n < depth (action_number a)))
      (after_of a)) (actions_in graph)
  inside whole no_actions once closed fall = tt
  inside whole (action_then (action name number pointer after kind tracked) rest) once closed fall = (
    each_need (λ n. (list_any (has_number n) (actions_in whole) ≡ true) × (depth n < depth number)) after
        (λ p named.
        (own_any whole p (closed.0 p named), fall_own number (map need_of after) (layered_kind kind) (layered rest) fall p named)),
    inside whole rest once.3 closed.2 (fall_behind number (map need_of after) (layered_kind kind) (layered rest) once.1 fall),
  )

-- THE LAW
module _ (depth : ℕ → ℕ) (steps : (graph : List ActionTree) → StandApart graph → FallInside graph depth → (at : List ℕ) (known : Table Row)
    → status_by at known (judged_of graph) ≡ graph_status graph at known) where
  pub top_status : (graph : ActionTrees) → Once (layered graph) → Closed (layered graph) (layered graph) → IsDepth (layered graph) depth
      → (j : JudgedTree) (at : List ℕ) (known : Table Row) → j ≡ judged_of (actions_in graph) → at ≡ []
      → status_by at known j ≡ graph_status (actions_in graph) [] known
  top_status graph once closed falls j at known is nowhere =
      ap (λ (k : JudgedTree). status_by at known k) is
      ∙ ap (λ (i : List ℕ). status_by i known (judged_of (actions_in graph))) nowhere
      ∙ steps (actions_in graph) (apart graph once)
      (inside depth graph graph once closed (λ p a held named. falls p a named)) [] known
