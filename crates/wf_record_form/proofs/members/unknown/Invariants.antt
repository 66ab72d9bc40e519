use Rattle.std.proofs.Common.{◌≡◌, replicate}
use Rattle.wf_record.specs.declared.attempt.Try.{Try}
use Rattle.wf_record_form.proofs.members.unknown.Given as goal

-- so many so far
abbrev pub invariant-loop : goal.invariant-loop
invariant-loop l = l.tries ≡ replicate l.counter Try.Unknown
