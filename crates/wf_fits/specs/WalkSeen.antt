-- An action with the way to it, as contracts see it.
use Rattle.std.specs.Prelude.{map}
use Rattle.wf_def.specs.ActionSeen.{action_tree}
use Rattle.wf_ways.specs.Way as way
use Rattle.wf_fits.specs.Walk.{Walked}
use Rattle.wf_fits.specs.declared.step.Into.{Into}
use Rattle.wf_fits.specs.declared.step.Step.{Step}
use Rattle.wf_fits.specs.declared.walk.Placed.{Placed}

abbrev pub into_tree : Into → way.Into
into_tree Into.Whole = way.whole
into_tree (Into.Branch k) = way.branch_of k
into_tree Into.Item = way.item
into_tree Into.Round = way.round

abbrev pub step_tree : Step → way.Step
step_tree s = way.step s.container (into_tree s.into)

abbrev pub walked : Placed → Walked
walked p = record { action = action_tree p.action.now; way = map step_tree p.way.items }
