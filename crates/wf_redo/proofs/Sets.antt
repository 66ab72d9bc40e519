-- What the tables of an order answer of a set, by the relations of the order.
use Rattle.std.proofs.Common.{◌≡◌, ◌↔◌, ℕ, Bool, true, false, not, List, [], ◌∷◌, inl, inr, refl, sym, subst, ◌∙◌, nat_eq, eqb-true}
use Rattle.std.specs.List.{list_any}
use Rattle.wf_layers.specs.Definition.{Closed, Graph, IsDepth, has}
use Rattle.wf_layers.specs.Redo.{OutOfLoops, closed_again, redone}
use Rattle.wf_layers.specs.Seen.{Once}
use Rattle.wf_layers.proofs.Basics.{and_in, and_of, either, or_first, or_second, same_self}
use Rattle.wf_layers.proofs.Redone.{a_set_has_its_parts}
use Rattle.wf_order.specs.Order.{Contains, IsBelow}
use Rattle.wf_order.specs.Table.{contains, order_of, redo}
use Rattle.wf_order.proofs.RelationLemmas.{contains_is, redo_is}
use Rattle.wf_redo.specs.Redoes.{HoldsOne, RedoesExactly, RedoneWithOne}
use Rattle.wf_redo.specs.Sets.{again_any, is_chosen, redo_any}
use Rattle.wf_redo.proofs.Redoes.{exactly}

some_chosen : (test : ℕ → Bool) (xs : List ℕ) → list_any test xs ≡ true → (x : ℕ) × (is_chosen xs x ≡ true) × (test x ≡ true)
some_chosen test [] is = absurd (cc)
some_chosen test (x ∷ xs) is = elim (either (test x) (list_any test xs) is) [
  | inl own ↦ (x, or_first (nat_eq x x) (list_any (nat_eq x) xs) (same_self x), own)
  | inr later ↦
      let found = some_chosen test xs later in (found.0, or_second (nat_eq found.0 x) (is_chosen xs found.0) found.1, found.2)
]

chosen_passes : (test : ℕ → Bool) (xs : List ℕ) (x : ℕ) → is_chosen xs x ≡ true → test x ≡ true → list_any test xs ≡ true
chosen_passes test [] x is passes = absurd (cc)
chosen_passes test (z ∷ zs) x is passes = elim (either (nat_eq x z) (list_any (nat_eq x) zs) is) [
  | inl same ↦ or_first (test z) (list_any test zs) (subst (λ (w : ℕ). test w ≡ true) (eqb-true x z same) passes)
  | inr later ↦ or_second (test z) (list_any test zs) (chosen_passes test zs x later passes)
]

same_truth : (p q : Bool) → (p ≡ true → q ≡ true) → (q ≡ true → p ≡ true) → p ≡ q
same_truth true q onward back = sym (onward refl)
same_truth false true onward back = back refl
same_truth false false onward back = refl

is_false : (b : Bool) → not b ≡ true → b ≡ false
is_false true is = absurd (cc)
is_false false is = refl

is_not : (b : Bool) → b ≡ false → not b ≡ true
is_not true is = absurd (cc)
is_not false is = refl

module _ (n : ℕ) (g : Graph) (from : List ℕ) (below : IsBelow n g) (closed : Closed g g)
    (present : (x : ℕ) → is_chosen from x ≡ true → has g x ≡ true) where
  pub redone_is : (y : ℕ) → has g y ≡ true → (redo_any (order_of n g) from y ≡ true) ↔ RedoneWithOne g (is_chosen from) y
  redone_is y here = (
    λ is.
        let found = some_chosen (λ x. redo (order_of n g) x y) from is in
        (found.0, found.1, (redo_is n g below closed found.0 y (present found.0 found.1) here).0 found.2),
    λ one.
        chosen_passes (λ x. redo (order_of n g) x y) from one.0 one.1
        ((redo_is n g below closed one.0 y (present one.0 one.1) here).1 one.2),
  )

  contained : (y : ℕ) → list_any (λ x. contains (order_of n g) y x) from ≡ true
      → (x : ℕ) × (is_chosen from x ≡ true) × Contains g y x
  contained y is =
      let found = some_chosen (λ x. contains (order_of n g) y x) from is in
      (found.0, found.1, (contains_is n g below y found.0 (present found.0 found.1)).0 found.2)

  pub closed_again_is : (y : ℕ) → has g y ≡ true
      → (again_any (order_of n g) from y ≡ true) ↔ HoldsOne g (is_chosen from) (redo_any (order_of n g) from) y
  closed_again_is y here = (
    λ is.
        let parts = and_in (not (redo_any (order_of n g) from y)) (list_any (λ x. contains (order_of n g) y x) from) is in
        (is_false (redo_any (order_of n g) from y) parts.0, contained y parts.1),
    λ one.
        and_of (not (redo_any (order_of n g) from y)) (list_any (λ x. contains (order_of n g) y x) from)
        (is_not (redo_any (order_of n g) from y) one.0)
        (chosen_passes (λ x. contains (order_of n g) y x) from one.1.0 one.1.1
        ((contains_is n g below y one.1.0 (present one.1.0 one.1.1)).1 one.1.2)),
  )

  pub as_resubmitted : (depth : ℕ → ℕ) → Once g → IsDepth g depth → OutOfLoops (is_chosen from) g → (y : ℕ) → has g y ≡ true
      → (redo_any (order_of n g) from y ≡ redone g depth (is_chosen from) y)
      × (again_any (order_of n g) from y ≡ closed_again g depth (is_chosen from) y)
  as_resubmitted depth once falls out y here =
      let all : RedoesExactly g (is_chosen from) (redone g depth (is_chosen from)) (closed_again g depth (is_chosen from)) =
      exactly g (is_chosen from) (redone g depth (is_chosen from)) (closed_again g depth (is_chosen from)) once closed present
      (a_set_has_its_parts g depth (is_chosen from) falls once closed out) in
      let same : redo_any (order_of n g) from y ≡ redone g depth (is_chosen from) y =
      same_truth (redo_any (order_of n g) from y) (redone g depth (is_chosen from) y)
      (λ is. (all.redone y here).1 ((redone_is y here).0 is)) (λ is. (redone_is y here).1 ((all.redone y here).0 is)) in (
        same,
        same_truth (again_any (order_of n g) from y) (closed_again g depth (is_chosen from) y)
            (λ is. let one = (closed_again_is y here).0 is in (all.closed_again y here).1 (sym same ∙ one.0, one.1))
            (λ is. let one = (all.closed_again y here).0 is in (closed_again_is y here).1 (same ∙ one.0, one.1)),
      )
