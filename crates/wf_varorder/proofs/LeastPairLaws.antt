-- The least pair in words of its own: it is one of the pairs, and none is below it.
use Rattle.std.proofs.Common.{◌≡◌, ◌<◌, ℕ, suc, List, [], ◌∷◌, length, Option, Some, None, ◌⊎◌, inl, inr, Ordering, Less, Equal, Greater}
use Rattle.std.proofs.Common.{refl, sym, ap, subst, ◌∙◌, arith}
use Rattle.std.specs.Prelude.{All, Contains, slice_index_or}
use Rattle.std.specs.Cmp.{IsTotalOrder}
use Rattle.std.specs.Ordering.{match_ordering, ordering_reverse, ordering_then}
use Rattle.std.proofs.lemmas.Cmp.{nat_list_cmp_total, then_total, tied_itself}
use Rattle.std.proofs.lemmas.List.Elements.{All-cons}
use Rattle.wf_val.specs.NameOrder.{bytes_cmp}
use Rattle.wf_standing.specs.Standing.{pointer_at}
use Rattle.wf_varorder.specs.Least.{IsLeastPair, least_from, lesser, pair_cmp}
use Rattle.wf_varorder.specs.Pairs.{Pair}

abbrev by_one : Pair → Pair → Ordering
by_one p q = bytes_cmp (pointer_at p.0) (pointer_at q.0)

abbrev by_other : Pair → Pair → Ordering
by_other p q = bytes_cmp (pointer_at p.1) (pointer_at q.1)

one_total : IsTotalOrder by_one
one_total = record {
  antisymm = λ p q. nat_list_cmp_total.antisymm (pointer_at p.0) (pointer_at q.0);
  trans = λ p q r. nat_list_cmp_total.trans (pointer_at p.0) (pointer_at q.0) (pointer_at r.0);
  congr = λ p q r. nat_list_cmp_total.congr (pointer_at p.0) (pointer_at q.0) (pointer_at r.0);
}

other_total : IsTotalOrder by_other
other_total = record {
  antisymm = λ p q. nat_list_cmp_total.antisymm (pointer_at p.1) (pointer_at q.1);
  trans = λ p q r. nat_list_cmp_total.trans (pointer_at p.1) (pointer_at q.1) (pointer_at r.1);
  congr = λ p q r. nat_list_cmp_total.congr (pointer_at p.1) (pointer_at q.1) (pointer_at r.1);
}

pair_total : IsTotalOrder pair_cmp
pair_total = then_total one_total other_total

not_below_itself : (p : Pair) → pair_cmp p p ≡ Less → ⊥
not_below_itself p below = let tied = tied_itself pair_total p in cc

some_alike : {X : Type 0} {p q : X} → Some p ≡ Some q → p ≡ q
some_alike is = cc

-- the lesser of two is one of them, and neither is below it
record IsLesser (b p m : Pair) : Type 0 where
  which : (m ≡ b) ⊎ (m ≡ p)
  one : (r : Pair) → (pair_cmp m r ≡ Less → ⊥) → pair_cmp b r ≡ Less → ⊥
  other : (r : Pair) → (pair_cmp m r ≡ Less → ⊥) → pair_cmp p r ≡ Less → ⊥

is_lesser : (b p : Pair) (o : Ordering) → pair_cmp b p ≡ o → IsLesser b p (match_ordering o b b p)
is_lesser b p Less is = record {
  which = inl refl;
  one = λ r h below. h below;
  other = λ r h below. h (pair_total.trans b p r is below);
}
is_lesser b p Equal is = record {
  which = inl refl;
  one = λ r h below. h below;
  other = λ r h below. h (pair_total.congr b p r is ∙ below);
}
is_lesser b p Greater is = record {
  which = inr refl;
  one = λ r h below. h (pair_total.trans p b r (pair_total.antisymm p b ∙ ap ordering_reverse is) below);
  other = λ r h below. h below;
}

record Found (best : Option Pair) (ps : List Pair) (r : Pair) : Type 0 where
  listed : (best ≡ Some r) ⊎ Contains ps r
  so_far : (b : Pair) → best ≡ Some b → pair_cmp b r ≡ Less → ⊥
  lowest : All (λ q. pair_cmp q r ≡ Less → ⊥) ps

first_listed : (p r : Pair) (ps : List Pair) → p ≡ r → Contains (p ∷ ps) r
first_listed p r ps is = subst (λ (q : Pair). Contains (p ∷ ps) q) is (0, omega arith, refl)

later_listed : (p r : Pair) (ps : List Pair) → Contains ps r → Contains (p ∷ ps) r
later_listed p r ps there = (suc there.0, omega (arith, there.1), there.2)

found : (best : Option Pair) (ps : List Pair) (r : Pair) → least_from best ps ≡ Some r → Found best ps r
found best [] r is = record {
  listed = inl is;
  so_far = λ b this below. not_below_itself r (subst (λ (q : Pair). pair_cmp q r ≡ Less) (some_alike (sym this ∙ is)) below);
  lowest = λ k d within. absurd (omega (arith, within));
}
found None (p ∷ ps) r is =
    let rest = found (Some p) ps r is in record {
      listed = elim rest.listed [
        | inl own ↦ inr (first_listed p r ps (some_alike own))
        | inr there ↦ inr (later_listed p r ps there)
      ];
      so_far = λ b none. absurd (cc);
      lowest = All-cons (λ q. pair_cmp q r ≡ Less → ⊥) p ps (rest.so_far p refl) rest.lowest;
    }
found (Some b) (p ∷ ps) r is =
    let m : Pair = match_ordering (pair_cmp b p) b b p in
    let rest = found (Some m) ps r is in
    let less = is_lesser b p (pair_cmp b p) refl in record {
      listed = elim rest.listed [
        | inl own ↦ elim less.which [
          | inl is_b ↦ inl (ap Some (sym is_b) ∙ own)
          | inr is_p ↦ inr (first_listed p r ps (sym is_p ∙ some_alike own))
        ]
        | inr there ↦ inr (later_listed p r ps there)
      ];
      so_far = λ c this below. less.one r (rest.so_far m refl) (subst (λ (q : Pair). pair_cmp q r ≡ Less) (sym (some_alike this)) below);
      lowest = All-cons (λ q. pair_cmp q r ≡ Less → ⊥) p ps (less.other r (rest.so_far m refl)) rest.lowest;
    }

pub least-is-least : (ps : List Pair) (p : Pair) → least_from None ps ≡ Some p → IsLeastPair ps p
least-is-least ps p is =
    let f = found None ps p is in record {
      listed = elim f.listed [ inl none ↦ absurd (cc) | inr there ↦ there ];
      lowest = f.lowest;
    }

some_from : (p : Pair) (ps : List Pair) → least_from (Some p) ps ≡ None → ⊥
some_from p [] none = cc
some_from p (q ∷ ps) none = some_from (lesser (Some p) q) ps none

pub none-is-none : (ps : List Pair) → least_from None ps ≡ None → ps ≡ []
none-is-none [] none = refl
none-is-none (p ∷ ps) none = absurd (some_from p ps none)
