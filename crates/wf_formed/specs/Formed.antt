-- WHAT A ROW HAS TO BE so that its record is of the form, wherever it stands.
use Rattle.std.specs.Prelude.{◌≡◌, ◌≤◌, length, true}
use Rattle.std.specs.List.{AllByRecursion}
use Rattle.wf_val.specs.ValueTree.{fits}
use Rattle.wf_record.specs.Record.{Row}
use Rattle.wf_record_form.specs.Fitting.{IsMeasured, IsTextOrNull, IsTracked, IsTry}

pub record IsFormedRow (r : Row) : Type 0 where
  pub inputs : fits r.inputs ≡ true
  pub outputs : IsMeasured r.outputs
  pub error : IsTextOrNull r.error
  pub tracked : IsTracked r.tracked
  pub few : length r.attempts ≤ 91
  pub attempts : AllByRecursion IsTry r.attempts
