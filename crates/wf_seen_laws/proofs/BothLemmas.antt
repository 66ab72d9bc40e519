-- Nobody sees who sees him.
use Rattle.std.proofs.Common.{◌≡◌, ℕ, Bool, true, false, ◌&&◌, cond, List, [], ◌∷◌, inl, inr, refl, sym, ap, ◌∙◌, arith, true≢false}
use Rattle.std.proofs.Common.{nat_eq, eqb-true, eq-eqb}
use Rattle.std.specs.Prelude.{nat_lt}
use Rattle.std.proofs.lemmas.Bool.{ltb-true}
use Rattle.wf_layers.specs.Definition.{Pace, InTurn, Kind, Leaf, Scope, Choice, Foreach, Until, Branches, no_branch, branch, Graph, done}
use Rattle.wf_layers.specs.Definition.{add, holds, has}
use Rattle.wf_layers.proofs.Basics.{two, and_in, when, unless}
use Rattle.wf_loops.specs.Loops.{is_earlier, is_in_turn, paces_any, paces_in, paces_round}

-- ---- the loops round both are the same whichever is named first

turned : (b c : Bool) (ps qs rs ss : List Pace) → ps ≡ rs → qs ≡ ss → cond (b && c) ps qs ≡ cond (c && b) rs ss
turned true true ps qs rs ss one other = one
turned true false ps qs rs ss one other = other
turned false true ps qs rs ss one other = other
turned false false ps qs rs ss one other = other

mutual
  both_in : (kind : Kind) (x y : ℕ) → paces_in kind x y ≡ paces_in kind y x
  both_in Leaf x y = refl
  both_in (Scope g) x y = both_round g x y
  both_in (Choice bs) x y = both_any bs x y
  both_in (Foreach pace g) x y = ap (λ (ps : List Pace). pace ∷ ps) (both_round g x y)
  both_in (Until most g) x y = ap (λ (ps : List Pace). InTurn ∷ ps) (both_round g x y)

  both_any : (bs : Branches) (x y : ℕ) → paces_any bs x y ≡ paces_any bs y x
  both_any no_branch x y = refl
  both_any (branch b rest) x y = turned (has b x) (has b y) (paces_round b x y) (paces_any rest x y) (paces_round b y x)
      (paces_any rest y x)
      (both_round b x y) (both_any rest x y)

  pub both_round : (g : Graph) (x y : ℕ) → paces_round g x y ≡ paces_round g y x
  both_round done x y = refl
  both_round (add n after kind rest) x y =
      turned (holds kind x) (holds kind y) (paces_in kind x y) (paces_round rest x y) (paces_in kind y x) (paces_round rest y x)
      (both_in kind x y) (both_round rest x y)

-- ---- two instances are earlier than each other at most where no index differs

other_way : (i j : ℕ) → nat_eq i j ≡ false → nat_eq j i ≡ false
other_way i j f = elim (two (nat_eq j i)) [
  | inl t ↦ absurd (true≢false (sym (eq-eqb i j (sym (eqb-true j i t))) ∙ f))
  | inr g ↦ g
]

pub none_differs : (ps : List Pace) (is js : List ℕ) (b c : Bool) → is_earlier ps is js b ≡ true → is_earlier ps js is c ≡ true
    → (b ≡ true) × (c ≡ true)
none_differs [] is js b c e f = (e, f)
none_differs (p ∷ ps) [] js b c e f = absurd (true≢false (sym e))
none_differs (p ∷ ps) (i ∷ is) [] b c e f = absurd (true≢false (sym e))
none_differs (p ∷ ps) (i ∷ is) (j ∷ js) b c e f = elim (two (nat_eq i j)) [
  | inl same ↦
      none_differs ps is js b c (sym (when (nat_eq i j) (is_earlier ps is js b) (is_in_turn p && nat_lt i j) same) ∙ e)
      (sym (when (nat_eq j i) (is_earlier ps js is c) (is_in_turn p && nat_lt j i) (eq-eqb j i (sym (eqb-true i j same)))) ∙ f)
  | inr other ↦
      let less = ltb-true i j (and_in (is_in_turn p) (nat_lt i j)
      (sym (unless (nat_eq i j) (is_earlier ps is js b) (is_in_turn p && nat_lt i j) other) ∙ e)).1 in
      let more = ltb-true j i (and_in (is_in_turn p) (nat_lt j i)
      (sym (unless (nat_eq j i) (is_earlier ps js is c) (is_in_turn p && nat_lt j i) (other_way i j other)) ∙ f)).1 in
      absurd (omega (arith, less, more))
]
