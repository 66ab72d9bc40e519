use Rattle.std.proofs.Common.{◌≡◌, drop, map}
use Rattle.wf_def.specs.DefSeen.{trigger_tree}
use Rattle.wf_trigger.specs.Choosing.{trigger_named}
use Rattle.wf_trigger.proofs.choosing.trigger_named.Given as goal

-- none so far has the name
abbrev pub invariant-loop-trigger : goal.invariant-loop-trigger
invariant-loop-trigger l =
    trigger_named l.name (map trigger_tree (drop l.trigger-index l.triggers)) ≡ trigger_named l.name (map trigger_tree l.triggers)
