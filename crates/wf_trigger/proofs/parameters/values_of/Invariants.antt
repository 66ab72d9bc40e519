use Rattle.std.proofs.Common.{◌≡◌, drop, map}
use Rattle.wf_def.specs.DefSeen.{param_tree}
use Rattle.wf_trigger.specs.Parameters.{values_of, values_onto}
use Rattle.wf_trigger.proofs.parameters.values_of.Given as goal

-- the values so far, with those that are left
abbrev pub invariant-loop-param : goal.invariant-loop-param
invariant-loop-param l =
    values_onto l.handed l.given l.values (map param_tree (drop l.param-index l.params))
    ≡ values_of l.handed l.given (map param_tree l.params)
