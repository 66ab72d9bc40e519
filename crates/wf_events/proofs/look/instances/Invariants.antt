use Rattle.std.proofs.Common.{◌≡◌, ◌++◌, drop}
use Rattle.wf_events.specs.Looked.{instances_at}
use Rattle.wf_events.proofs.look.instances.Given as goal

abbrev pub invariant-loop-action : goal.invariant-loop-action
invariant-loop-action l = (l.places.items ++ instances_at l.at (drop l.action-index l.actions)) ≡ instances_at l.at l.actions
