-- The elements of lists, and a member that is found by its name.
use Rattle.std.proofs.Common.{◌≡◌, ◌⊎◌, List, [], ◌∷◌, ◌++◌, map, flat_map, ℕ, Some, Less, inl, inr, refl, sym, ap, ◌∙◌, subst, arith}
use Rattle.std.specs.List.{Contains}
use Rattle.std.proofs.lemmas.Cmp.{nat_list_cmp_total, tied_itself}
use Rattle.std.proofs.lemmas.List.Elements.{All-contains, All-from_recursion}
use Rattle.std.proofs.lemmas.List.Elements.{Contains-append_cases, Contains-append_right, Contains-push_cases}
use Rattle.wf_val.specs.Get.{name_of, value_of}
use Rattle.wf_val.specs.NameOrder.{bytes_cmp, IsInNameOrder}
use Rattle.wf_val.specs.ValueTree.{ValueTree, Member, MemberTrees, no_members, member_then, pairs}
use Rattle.wf_val.specs.WellFormed.{IsWellFormed, AllMembersWellFormed}

pub none_in_nothing : {X : Type 0} (y : X) → Contains [] y → ⊥
none_in_nothing y c = let within = c.1 in omega arith

pub first_listed : {X : Type 0} (x : X) (xs : List X) → Contains (x ∷ xs) x
first_listed x xs = (0, omega arith, refl)

pub first_or_rest : {X : Type 0} (x : X) (xs : List X) (y : X) → Contains (x ∷ xs) y → (x ≡ y) ⊎ Contains xs y
first_or_rest x xs y c = elim (Contains-append_cases (x ∷ []) xs y c) [
  | inl one ↦ elim (Contains-push_cases [] x y one) [ inl none ↦ absurd (none_in_nothing y none) | inr is ↦ inl is ]
  | inr rest ↦ inr rest
]

-- a list without elements
pub no_elements : {X : Type 0} (xs : List X) → ((x : X) → Contains xs x → ⊥) → xs ≡ []
no_elements [] none = refl
no_elements (x ∷ xs) none = absurd (none x (first_listed x xs))

pub map_nothing : {X Y : Type 0} (f : X → Y) (xs : List X) → map f xs ≡ [] → xs ≡ []
map_nothing f [] is = refl
map_nothing f (x ∷ xs) is = absurd (cc)

-- two lists that make none together
pub first_nothing : {X : Type 0} (xs ys : List X) → xs ++ ys ≡ [] → xs ≡ []
first_nothing [] ys is = refl
first_nothing (x ∷ xs) ys is = absurd (cc)

pub second_nothing : {X : Type 0} (xs ys : List X) → xs ++ ys ≡ [] → ys ≡ []
second_nothing [] ys is = is
second_nothing (x ∷ xs) ys is = absurd (cc)

-- a member is the one of its name, where names are in order
pub value_own : (ms : List Member) (k : List ℕ) (e : ValueTree) → IsInNameOrder name_of ms → Contains ms (k, e) → value_of k ms ≡ Some e
value_own [] k e order c = absurd (none_in_nothing (k, e) c)
value_own (m ∷ ms) k e order c = elim (first_or_rest m ms (k, e) c) [
  | inl is ↦ subst (λ (n : Member). value_of k (n ∷ ms) ≡ Some e) (sym is) (rw (tied_itself nat_list_cmp_total k) refl)
  | inr rest ↦
      let below = All-contains (λ (y : Member). bytes_cmp m.0 y.0 ≡ Less) ms (k, e) (All-from_recursion _ ms order.0) rest in
      rw (nat_list_cmp_total.antisymm k m.0, below) (value_own ms k e order.1 rest)
]

-- a member of a well-formed object is well formed
pub formed_member : (es : MemberTrees) (k : List ℕ) (x : ValueTree) → AllMembersWellFormed es → Contains (pairs es) (k, x) → IsWellFormed x
formed_member no_members k x formed c = absurd (none_in_nothing (k, x) c)
formed_member (member_then l e es) k x formed c = elim (first_or_rest (l, e) (pairs es) (k, x) c) [
  | inl is ↦ subst (λ (m : Member). IsWellFormed m.1) is formed.0.1
  | inr rest ↦ formed_member es k x formed.1 rest
]

-- what comes of the elements of a list, one after the other
module _ {X Y : Type 0} (f : X → List Y) where
  pub flat_part : (xs : List X) (x : X) → flat_map f xs ≡ [] → Contains xs x → f x ≡ []
  flat_part [] x none c = absurd (none_in_nothing x c)
  flat_part (y ∷ xs) x none c = elim (first_or_rest y xs x c) [
    | inl is ↦ subst (λ z. f z ≡ []) is (first_nothing (f y) (flat_map f xs) none)
    | inr rest ↦ flat_part xs x (second_nothing (f y) (flat_map f xs) none) rest
  ]

  pub flat_none : (xs : List X) → ((x : X) → Contains xs x → f x ≡ []) → flat_map f xs ≡ []
  flat_none [] none = refl
  flat_none (x ∷ xs) none =
      ap (λ ys. ys ++ flat_map f xs) (none x (first_listed x xs))
      ∙ flat_none xs (λ y c. none y (Contains-append_right (x ∷ []) xs y c))

  pub flat_listed : (xs : List X) (y : Y) → Contains (flat_map f xs) y → (x : X) × Contains xs x × Contains (f x) y
  flat_listed [] y c = absurd (none_in_nothing y c)
  flat_listed (x ∷ xs) y c = elim (Contains-append_cases (f x) (flat_map f xs) y c) [
    | inl here ↦ (x, first_listed x xs, here)
    | inr later ↦ let (z, listed, is) = flat_listed xs y later in (z, Contains-append_right (x ∷ []) xs z listed, is)
  ]
