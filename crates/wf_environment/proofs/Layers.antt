-- Which layer an action goes by.
use Rattle.std.proofs.Common.{◌≡◌, ℕ, Bool, true, false, List, [], ◌∷◌, ◌++◌, if◌then◌else◌, refl, ap, ◌∙◌}
use Rattle.std.specs.List.{list_any}
use Rattle.std.specs.Prelude.{◌||◌}
use Rattle.std.proofs.Common.{true≢false}
use Rattle.wf_environment.specs.Environment.{Environment, Facts, Layer, facts_of, facts_over, first_facts, last_facts, last_over, layer_facts}

or_none : (a b : Bool) → (a || b) ≡ false → (a ≡ false) × (b ≡ false)
or_none true b e = absurd (true≢false e)
or_none false b e = (refl, e)

module _ (name : List ℕ) where
  abbrev has_it : Layer → Bool
  has_it layer = layer.redone name

  none_over : (facts : Facts) (layers : List Layer) → list_any has_it layers ≡ false → facts_over name facts layers ≡ facts
  none_over facts [] none = refl
  none_over facts (layer ∷ layers) none =
      let parts = or_none (has_it layer) (list_any has_it layers) none in
      rw parts.0 (none_over facts layers parts.1)

  pub no_layer : (e : Environment) → list_any has_it e.layers ≡ false → facts_of e name ≡ first_facts e
  no_layer e none = none_over (first_facts e) e.layers none

  one_over : (facts : Facts) (earlier later : List Layer) (layer : Layer) → layer.redone name ≡ true → list_any has_it later ≡ false →
      facts_over name facts (earlier ++ layer ∷ later) ≡ layer_facts layer.inputs
  one_over facts [] later layer has none =
      ap (λ b. facts_over name (if b then layer_facts layer.inputs else facts) later) has ∙ none_over (layer_facts layer.inputs) later none
  one_over facts (first ∷ earlier) later layer has none =
      one_over (if first.redone name then layer_facts first.inputs else facts) earlier later layer has none

  pub one_layer : (e : Environment) (earlier later : List Layer) (layer : Layer) → e.layers ≡ earlier ++ layer ∷ later
      → layer.redone name ≡ true →
      list_any has_it later ≡ false → facts_of e name ≡ layer_facts layer.inputs
  one_layer e earlier later layer are has none = ap (facts_over name (first_facts e)) are ∙ one_over
      (first_facts e) earlier later layer has none

over_last : (facts : Facts) (earlier : List Layer) (layer : Layer) → last_over facts (earlier ++ layer ∷ []) ≡ layer_facts layer.inputs
over_last facts [] layer = refl
over_last facts (first ∷ earlier) layer = over_last (layer_facts first.inputs) earlier layer

pub last_layer : (e : Environment) (earlier : List Layer) (layer : Layer) → e.layers ≡ earlier ++ layer ∷ []
    → last_facts e ≡ layer_facts layer.inputs
last_layer e earlier layer are = ap (last_over (first_facts e)) are ∙ over_last (first_facts e) earlier layer
