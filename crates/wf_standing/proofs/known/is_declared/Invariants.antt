use Rattle.std.proofs.Common.{◌≡◌, drop, map}
use Rattle.wf_def.specs.DefSeen.{param_tree}
use Rattle.wf_standing.specs.Whole.{is_declared}
use Rattle.wf_standing.proofs.known.is_declared.Given as goal

abbrev pub invariant-loop-param : goal.invariant-loop-param
invariant-loop-param l = is_declared (map param_tree (drop l.param-index l.params)) l.name ≡ is_declared (map param_tree l.params) l.name
