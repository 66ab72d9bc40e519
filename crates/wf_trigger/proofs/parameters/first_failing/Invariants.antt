use Rattle.std.proofs.Common.{◌≡◌, drop, map}
use Rattle.wf_def.specs.DefSeen.{param_tree}
use Rattle.wf_trigger.specs.Parameters.{first_failing}
use Rattle.wf_trigger.proofs.parameters.first_failing.Given as goal

-- none so far fails
abbrev pub invariant-loop-param : goal.invariant-loop-param
invariant-loop-param l =
    first_failing l.handed l.given l.want (map param_tree (drop l.param-index l.params))
    ≡ first_failing l.handed l.given l.want (map param_tree l.params)
