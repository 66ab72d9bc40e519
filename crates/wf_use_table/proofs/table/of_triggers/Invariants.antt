use Rattle.std.proofs.Common.{◌≡◌, map, take}
use Rattle.wf_def.specs.DefSeen.{trigger_tree}
use Rattle.wf_refs.specs.UsesSeen.{uses_seen}
use Rattle.wf_refs.specs.Sites.{uses_at_trigger}
use Rattle.wf_use_table.proofs.table.of_triggers.Given as goal

-- the uses so far
abbrev pub invariant-loop-trigger : goal.invariant-loop-trigger
invariant-loop-trigger l = map uses_seen l.all.items ≡ map uses_at_trigger (map trigger_tree (take l.trigger-index l.triggers))
