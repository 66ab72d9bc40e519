-- An action with the loops round it, as contracts see it.
use Rattle.wf_def.specs.ActionSeen.{action_tree}
use Rattle.wf_catalog.specs.Walk.{Walked}
use Rattle.wf_catalog.specs.declared.walk.Placed.{Placed}

abbrev pub walked : Placed → Walked
walked p = record { action = action_tree p.action.now; loops = p.loops.items }
