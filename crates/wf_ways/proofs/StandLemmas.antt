-- An address stands as it does along the way to its action.
use Rattle.std.proofs.Common.{◌≡◌, ℕ, zero, suc, ◌-◌, Bool, true, false, not, ◌||◌, cond, List, [], ◌∷◌, ◌++◌, Option, Some, None, inl, inr, refl, sym, ap, ◌∙◌, nat_eq, nat_lt, arith, eqb-true, eq-eqb}
use Rattle.wf_layers.specs.Definition.{Kind, Leaf, Scope, Choice, Foreach, Until, Branches, no_branch, branch, Graph, done, add, is_one, less_one, holds, has, has_any}
use Rattle.wf_layers.specs.Address.{Table, address}
use Rattle.wf_layers.specs.Shape.{Reading}
use Rattle.wf_layers.proofs.Basics.{not_true, two, unless, when}
use Rattle.wf_shape.specs.Standing.{Standing, at_turn, if_fits, stand, stand_in, stand_any, uncalled, unsaid}
use Rattle.wf_ways.specs.Along.{along}
use Rattle.wf_ways.specs.CalledBy.{StandsAlong}
use Rattle.wf_ways.specs.Way.{way, way_any, way_in}

-- ---- branches are counted

abbrev down : ℕ → ℕ → ℕ
down zero c = c
down (suc k) c = less_one (down k c)

one_less : (m : ℕ) → less_one m ≡ m - 1
one_less zero = refl
one_less (suc m) = omega arith

down_is : (k c : ℕ) → down k c ≡ c - k
down_is zero c = omega arith
down_is (suc k) c =
    let before = down_is k c in
    let less = one_less (down k c) in
    omega (arith, before, less)

is_one_is : (m : ℕ) → is_one m ≡ nat_eq 1 m
is_one_is zero = refl
is_one_is (suc zero) = refl
is_one_is (suc (suc m)) = sym (not_true (nat_eq 1 (suc (suc m))) (λ is. let same = eqb-true 1 (suc (suc m)) is in omega (arith, same)))

counted : (k c : ℕ) → nat_eq 1 (c - k) ≡ nat_eq (suc k) c
counted k c = elim (two (nat_eq (suc k) c)) [
  | inl is ↦
      let same = eqb-true (suc k) c is in
      let left : 1 ≡ c - k = omega (arith, same) in
      eq-eqb 1 (c - k) left ∙ sym is
  | inr not_so ↦
      not_true (nat_eq 1 (c - k))
      (λ is. let same = eqb-true 1 (c - k) is in
      let whole : suc k ≡ c = omega (arith, same) in
      cc (eq-eqb (suc k) c whole, not_so))
      ∙ sym not_so
]

taken_is : (k c : ℕ) → is_one (down k c) ≡ nat_eq (suc k) c
taken_is k c = is_one_is (down k c) ∙ ap (nat_eq 1) (down_is k c) ∙ counted k c

-- ---- past a row

same_past : {Row : Type 0} (fits : Row → Bool) (o : Option Row) (one other : Row → Standing) → ((row : Row) → one row ≡ other row)
    → if_fits fits o one ≡ if_fits fits o other
same_past fits None one other same = refl
same_past fits (Some row) one other same = ap (λ s. cond (fits row) s unsaid) (same row)

same_turn : (count : ℕ) (rest : List ℕ) (one other : ℕ → List ℕ → Standing) → ((j : ℕ) (more : List ℕ) → one j more ≡ other j more)
    → at_turn count rest one ≡ at_turn count rest other
same_turn count [] one other same = refl
same_turn count (j ∷ rest) one other same = ap (λ s. cond (nat_lt j count) s uncalled) (same j rest)

module _ {Row : Type 0} (read : Reading Row) (is_skipped : Row → Bool) (fits : ℕ → Bool → Row → Bool) (r : Table Row) where
  mutual
    along_in : (kind : Kind) (n x : ℕ) (skipped : Bool) (i rest : List ℕ) → holds kind x ≡ true
        → if_fits (fits n skipped) (r (address n i)) (λ row. stand_in read is_skipped fits r kind n x row i rest)
        ≡ along read is_skipped fits r (way_in kind n x) skipped i rest
    along_in Leaf n x skipped i rest h = absurd (cc)
    along_in (Scope g) n x skipped i rest h =
        same_past (fits n skipped) (r (address n i)) _ _ (λ row. along_of g x (is_skipped row) i rest h)
    along_in (Choice bs) n x skipped i rest h = along_any bs n 0 x skipped i rest h
    along_in (Foreach pace g) n x skipped i rest h =
        same_past (fits n skipped) (r (address n i)) _ _
        (λ row. same_turn (read.items row) rest _ _ (λ j more. along_of g x false (i ++ j ∷ []) more h))
    along_in (Until most g) n x skipped i rest h =
        same_past (fits n skipped) (r (address n i)) _ _
        (λ row. same_turn (read.rounds row) rest _ _ (λ j more. along_of g x false (i ++ j ∷ []) more h))

    along_any : (bs : Branches) (n k x : ℕ) (skipped : Bool) (i rest : List ℕ) → has_any bs x ≡ true
        → if_fits (fits n skipped) (r (address n i))
        (λ row. stand_any read is_skipped fits r bs (down k (read.taken n row)) x (is_skipped row) i rest)
        ≡ along read is_skipped fits r (way_any bs n (suc k) x) skipped i rest
    along_any no_branch n k x skipped i rest h = absurd (cc)
    along_any (branch b bs) n k x skipped i rest h = elim (two (has b x)) [
      | inl one ↦
          same_past (fits n skipped) (r (address n i)) _ _
          (λ row. when (has b x) _ _ one
          ∙ ap (λ t. stand read is_skipped fits r b x (is_skipped row || not t) i rest) (taken_is k (read.taken n row))
          ∙ along_of b x (is_skipped row || not (nat_eq (suc k) (read.taken n row))) i rest one)
          ∙ sym (ap (λ w. along read is_skipped fits r w skipped i rest) (when (has b x) _ (way_any bs n (suc (suc k)) x) one))
      | inr out ↦
          same_past (fits n skipped) (r (address n i)) _ _ (λ row. unless (has b x) _ _ out)
          ∙ along_any bs n (suc k) x skipped i rest (ap (λ c. c || has_any bs x) (sym out) ∙ h)
          ∙ sym (ap (λ w. along read is_skipped fits r w skipped i rest) (unless (has b x) _ (way_any bs n (suc (suc k)) x) out))
    ]

    pub along_of : (g : Graph) (x : ℕ) (skipped : Bool) (i rest : List ℕ) → has g x ≡ true
        → stand read is_skipped fits r g x skipped i rest ≡ along read is_skipped fits r (way g x) skipped i rest
    along_of done x skipped i rest h = absurd (cc)
    along_of (add n after kind g) x skipped i rest h = elim (two (nat_eq n x)) [
      | inl own ↦ rw own refl
      | inr other ↦ elim (two (holds kind x)) [
        | inl held ↦ rw (other, held) (along_in kind n x skipped i rest held)
        | inr out ↦
            rw (other, out) (along_of g x skipped i rest (ap (λ c. c || has g x) (sym (ap (λ c. c || holds kind x) other ∙ out)) ∙ h))
      ]
    ]

  none_of : (g : Graph) (x : ℕ) (skipped : Bool) (i rest : List ℕ) → has g x ≡ false
      → stand read is_skipped fits r g x skipped i rest ≡ uncalled
  none_of done x skipped i rest h = refl
  none_of (add n after kind g) x skipped i rest h =
      let first = no_or (nat_eq n x || holds kind x) (has g x) h in
      let own = no_or (nat_eq n x) (holds kind x) first.0 in
      rw (own.0, own.1) (none_of g x skipped i rest first.1)
    where
      no_or : (p q : Bool) → (p || q) ≡ false → (p ≡ false) × (q ≡ false)
      no_or true q is = absurd (cc)
      no_or false q is = (refl, is)

  pub stands_along : (d : Graph) → StandsAlong read is_skipped fits r d
  stands_along d x skipped i rest = (along_of d x skipped i rest, none_of d x skipped i rest)
