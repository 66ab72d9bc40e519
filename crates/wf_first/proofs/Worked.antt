-- Of three rules made up for them: width and depth, of which each is broken at some places, and height, which holds.
use Rattle.std.proofs.Common.{◌≡◌, ℕ, List, [], ◌∷◌, Some, None, inl, inr, refl}
use Rattle.std.specs.Prelude.{codes}
use Rattle.wf_first.specs.First.{first_broken, HoldBefore, Hold}

data Measure : Type 0 where
  height : Measure
  width : Measure
  depth : Measure

abbrev offences : Measure → List (List ℕ)
offences height = []
offences width = codes "/b" ∷ codes "/a/2" ∷ codes "/a/10" ∷ codes "/c" ∷ []
offences depth = [] ∷ codes "/a" ∷ []

-- the first that is broken, and of its pointers the least by bytes, which is neither the first of them nor that of the least number
first-of_three : first_broken offences (height ∷ width ∷ depth ∷ []) ≡ Some (width, codes "/a/10")
first-of_three = refl

-- a later rule isn't told, though its pointer is less
first-before_less : first_broken offences (width ∷ depth ∷ []) ≡ Some (width, codes "/a/10")
first-before_less = refl

-- the order is that of the list
first-by_list : first_broken offences (depth ∷ height ∷ width ∷ []) ≡ Some (depth, [])
first-by_list = refl

-- the last of the rules counts, and so does a rule that stands alone
first-at_the_end : first_broken offences (height ∷ height ∷ depth ∷ []) ≡ Some (depth, [])
first-at_the_end = refl

first-alone : first_broken offences (width ∷ []) ≡ Some (width, codes "/a/10")
first-alone = refl

first-none : first_broken offences (height ∷ height ∷ []) ≡ None
first-none = refl

first-no_rules : first_broken offences [] ≡ None
first-no_rules = refl

-- rules hold before one that is among them, up to its first place alone
before-third : HoldBefore offences depth (height ∷ height ∷ depth ∷ width ∷ [])
before-third = inr (refl, inr (refl, inl refl))

before-not_broken : HoldBefore offences depth (height ∷ width ∷ depth ∷ []) → ⊥
before-not_broken before = elim before [
  | inl other ↦ other_measures other
  | inr rest ↦ elim rest.1 [ inl other ↦ apart other | inr broken ↦ some_offence broken.0 ]
]
  where
    other_measures : height ≡ depth → ⊥
    other_measures is = cc

    apart : width ≡ depth → ⊥
    apart is = cc

    some_offence : offences width ≡ [] → ⊥
    some_offence is = cc

before-not_there : HoldBefore offences depth (height ∷ []) → ⊥
before-not_there before = elim before [ inl other ↦ other_measures other | inr rest ↦ rest.1 ]
  where
    other_measures : height ≡ depth → ⊥
    other_measures is = cc

hold-all : Hold offences (height ∷ height ∷ [])
hold-all = (refl, (refl, tt))
