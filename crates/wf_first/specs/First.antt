-- Which of several rules is broken first, and where. A rule is whatever has offences: the pointers of all places that break it.
use Rattle.std.specs.Prelude.{◌≡◌, ℕ, List, [], ◌∷◌, Option, Some, None, ◌⊎◌}
use Rattle.wf_json.specs.Pointer.{least, IsLeast}

abbrev pub or_later : {Rule : Type 0} → Rule → Option (List ℕ) → Option (Rule × List ℕ) → Option (Rule × List ℕ)
or_later rule None later = later
or_later rule (Some p) later = Some (rule, p)

-- the first of these rules that is broken, with the least pointer
abbrev pub first_broken : {Rule : Type 0} → (Rule → List (List ℕ)) → List Rule → Option (Rule × List ℕ)
first_broken offences [] = None
first_broken offences (rule ∷ rules) = or_later rule (least (offences rule)) (first_broken offences rules)

-- ---- in words of its own

-- all of these rules hold
abbrev pub Hold : {Rule : Type 0} → (Rule → List (List ℕ)) → List Rule → Type 0
Hold offences [] = Unit {0}
Hold offences (r ∷ rules) = (offences r ≡ []) × Hold offences rules

-- this is one of the rules, and those before it hold
abbrev pub HoldBefore : {Rule : Type 0} → (Rule → List (List ℕ)) → Rule → List Rule → Type 0
HoldBefore offences rule [] = ⊥
HoldBefore offences rule (r ∷ rules) = (r ≡ rule) ⊎ ((offences r ≡ []) × HoldBefore offences rule rules)

-- those before it hold, and the pointer is the least of those that break it
pub record IsFirstBroken {Rule : Type 0} (offences : Rule → List (List ℕ)) (rules : List Rule) (rule : Rule) (pointer : List ℕ)
    : Type 0 where
  pub before : HoldBefore offences rule rules
  pub least : IsLeast (offences rule) pointer
