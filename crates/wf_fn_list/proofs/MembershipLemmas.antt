-- Values that are among others.
use Rattle.std.proofs.Common.{◌≡◌, ℕ, zero, suc, ◌<◌, List, [], ◌∷◌, length, map, refl, sym, ◌∙◌, ap, arith, Bool, true, false}
use Rattle.std.proofs.Common.{◌||◌, get_or, ◌↔◌}
use Rattle.std.proofs.lemmas.List.Elements.{Contains-append_right}
use Rattle.std.specs.List.{Contains, list_any}
use Rattle.std.specs.Ordering.{is_eq}
use Rattle.std.specs.declared.cmp.Ordering.{Ordering}
use Rattle.std.specs.declared.cmp.Ordering.TheVariants.{Less, Equal, Greater}
use Rattle.wf_val.specs.ValueOrder.{order}
use Rattle.wf_val.specs.ValueOrderLaws.{order-self, same_from_order}
use Rattle.wf_val.specs.ValueTree.{ValueTree}
use Rattle.wf_fn_list.specs.Membership.{is_among}

pub equal-from_test : (o : Ordering) → is_eq o ≡ true → o ≡ Equal
equal-from_test Less is = absurd (cc)
equal-from_test Equal is = refl
equal-from_test Greater is = absurd (cc)

-- values that compare equal are the same
pub same-from_equal : (x y : ValueTree) → is_eq (order x y) ≡ true → x ≡ y
same-from_equal x y is = same_from_order x y (equal-from_test (order x y) is)

equal-itself : (x : ValueTree) → is_eq (order x x) ≡ true
equal-itself x = ap is_eq (order-self x)

pub or-true : (a b : Bool) → b ≡ true → a || b ≡ true
or-true true b is = refl
or-true false b is = is

pub or-left : (a b : Bool) → a ≡ true → a || b ≡ true
or-left true b is = refl
or-left false b is = absurd (cc)

-- among values is one of them
among-contained : (xs : List ValueTree) (x : ValueTree) → is_among xs x ≡ true → Contains xs x
among-contained [] x is = absurd (cc)
among-contained (y ∷ ys) x is = contained-at y ys x (is_eq (order x y)) refl is (among-contained ys x)
  where
    contained-at : (y : ValueTree) (ys : List ValueTree) (x : ValueTree) (b : Bool) → b ≡ is_eq (order x y) → b || is_among ys x ≡ true
        → (is_among ys x ≡ true → Contains ys x) → Contains (y ∷ ys) x
    contained-at y ys x true at is rest = (0, omega arith, sym (same-from_equal x y (sym at)))
    contained-at y ys x false at is rest = Contains-append_right (y ∷ []) ys x (rest is)

contained-among : (xs : List ValueTree) (x : ValueTree) (k : ℕ) → k < length xs → get_or xs k x ≡ x → is_among xs x ≡ true
contained-among [] x k lt is = absurd (omega (arith, lt))
contained-among (y ∷ ys) x zero lt is = or-left (is_eq (order x y)) (is_among ys x) (ap (λ z. is_eq (order x z)) is ∙ equal-itself x)
contained-among (y ∷ ys) x (suc k) lt is = or-true (is_eq (order x y)) (is_among ys x) (contained-among ys x k (omega (arith, lt)) is)

pub among-is_contained : (xs : List ValueTree) (x : ValueTree) → (is_among xs x ≡ true) ↔ Contains xs x
among-is_contained xs x = (among-contained xs x, λ c. contained-among xs x c.0 c.1 c.2)

-- values that are read off
pub among-mapped : {K : Type 0} (value : K → ValueTree) (ks : List K) (t : ValueTree) → list_any (λ j. is_eq (order t (value j))) ks
    ≡ is_among (map value ks) t
among-mapped value [] t = refl
among-mapped value (x ∷ xs) t = ap (λ b. is_eq (order t (value x)) || b) (among-mapped value xs t)
