use Rattle.std.proofs.Common.{◌≡◌, take, string_bytes}
use Rattle.wf_shown.specs.Changes.{attempts_text}
use Rattle.wf_shown.proofs.attempts.attempts_text.Given as goal

-- the lines so far
abbrev pub invariant-loop-attempt : goal.invariant-loop-attempt
invariant-loop-attempt l = string_bytes l.text ≡ attempts_text (take l.attempt-index l.attempt-items)
