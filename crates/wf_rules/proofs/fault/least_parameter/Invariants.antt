use Rattle.std.proofs.Common.{◌≡◌, drop, map, option_map, string_bytes}
use Rattle.wf_varorder.specs.DefSeen.{param_tree}
use Rattle.wf_json.specs.Pointer.{lesser, least}
use Rattle.wf_rules.specs.Broken.{parameter_pointer, told}
use Rattle.wf_breaks.specs.Rules.{parameter_breaks}
use Rattle.wf_rules.proofs.fault.least_parameter.Given as goal

abbrev pub invariant-loop-param : goal.invariant-loop-param
invariant-loop-param l =
    lesser (option_map string_bytes l.best)
    (least (told (parameter_breaks l.given l.rule) parameter_pointer (map param_tree (drop l.param-index l.params))))
    ≡ least (told (parameter_breaks l.given l.rule) parameter_pointer (map param_tree l.params))
