use Rattle.std.proofs.Common.{◌≡◌, drop, option_map}
use Rattle.wf_record.specs.Seen.{record_tree}
use Rattle.wf_resubmit.specs.Least.{least_from, least_of}
use Rattle.wf_resubmit.specs.Refused.{is_idle}
use Rattle.wf_resubmit.proofs.asked.least_idle.Given as goal

abbrev pub invariant-loop-name : goal.invariant-loop-name
invariant-loop-name l =
    least_from (is_idle (record_tree l.log).rows) (option_map (λ n. n.now) l.least) (drop l.name-index l.names)
    ≡ least_of (is_idle (record_tree l.log).rows) l.names
