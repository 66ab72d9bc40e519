-- An address fails exactly where a row is wrong, is one too many, or is missing.
use Rattle.std.proofs.Common.{◌≡◌, ℕ, Bool, true, false, not, Option, Some, None, refl, ap, ap₂, ◌∙◌}
use Rattle.wf_layers.specs.Definition.{Graph}
use Rattle.wf_layers.specs.Address.{Address, Table}
use Rattle.wf_layers.specs.Seen.{Once}
use Rattle.wf_layers.specs.Shape.{Reading}
use Rattle.wf_shape.specs.Standing.{Standing, called, fails, fails_as, standing, unsaid, uncalled}
use Rattle.wf_ways.specs.FailsBy.{FailsBy, FailsByARow, missing, surplus, wrong}
use Rattle.wf_ways.proofs.CallLemmas.{called_by_a_row}

is_false : (b : Bool) → not b ≡ true → b ≡ false
is_false true is = absurd (cc)
is_false false is = refl

module _ {Row : Type 0} (read : Reading Row) (is_skipped : Row → Bool) (fits : ℕ → Bool → Row → Bool) (r : Table Row) (d : Graph) where
  failing : (y : Address) → Once d → (s : Standing) (o : Option Row) → standing read is_skipped fits r d y ≡ s → r y ≡ o
      → fails_as read is_skipped fits r y.name s o ≡ true → FailsBy read is_skipped fits r d y
  failing y once (called skipped) None stands there is = missing there ((called_by_a_row read is_skipped fits r d once y).0
      (skipped, stands))
  failing y once (called skipped) (Some row) stands there is = wrong row skipped there stands (is_false (fits y.name skipped row) is)
  failing y once unsaid o stands there is = absurd (cc)
  failing y once uncalled None stands there is = absurd (cc)
  failing y once uncalled (Some row) stands there is = surplus row there stands

  fails_there : (y : Address) → Once d → FailsBy read is_skipped fits r d y → fails read is_skipped fits r d y ≡ true
  fails_there y once (wrong row skipped there stands unfit) =
      ap₂ (fails_as read is_skipped fits r y.name) stands there ∙ ap not unfit
  fails_there y once (surplus row there stands) = ap₂ (fails_as read is_skipped fits r y.name) stands there
  fails_there y once (missing there by) =
      let is = (called_by_a_row read is_skipped fits r d once y).1 by in
      ap₂ (fails_as read is_skipped fits r y.name) is.1 there

  pub fails_by_a_row : FailsByARow read is_skipped fits r d
  fails_by_a_row once y = (failing y once (standing read is_skipped fits r d y) (r y) refl refl, fails_there y once)
