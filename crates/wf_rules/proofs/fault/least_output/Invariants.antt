use Rattle.std.proofs.Common.{◌≡◌, codes, drop, map, option_map, string_bytes}
use Rattle.wf_varorder.specs.DefSeen.{output_tree}
use Rattle.wf_json.specs.Pointer.{lesser, least}
use Rattle.wf_rules.specs.Broken.{told_in}
use Rattle.wf_varorder.specs.KnownSeen.{whole_seen}
use Rattle.wf_breaks.specs.Rules.{output_breaks}
use Rattle.wf_rules.proofs.fault.least_output.Given as goal

abbrev pub invariant-loop-place : goal.invariant-loop-place
invariant-loop-place l =
    lesser (option_map string_bytes l.best)
    (least (told_in (codes "/outputs")
    (output_breaks (whole_seen l.known) l.rule) l.place (map (λ x. x.name) (map output_tree (drop l.place l.outputs)))))
    ≡ least (told_in (codes "/outputs") (output_breaks (whole_seen l.known) l.rule) 0 (map (λ x. x.name) (map output_tree l.outputs)))
