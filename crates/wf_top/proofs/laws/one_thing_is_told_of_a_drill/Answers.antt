use Rattle.wf_top.proofs.Alike.{drill_alike}
use Rattle.wf_top.proofs.laws.one_thing_is_told_of_a_drill.Goals as goal

pub returns : goal.returns
returns c = drill_alike (record { one = c.one_measure_is_told.ensures.one; beside = c.one_measure_is_told.ensures.none })
