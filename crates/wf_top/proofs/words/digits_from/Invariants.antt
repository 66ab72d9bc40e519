use Rattle.std.proofs.Common.{◌≡◌, ◌≤◌, drop}
use Rattle.wf_top.specs.Words.{digits_from}
use Rattle.wf_top.proofs.words.digits_from.Given as goal

-- what the digits so far come to, with those that are left
abbrev pub invariant-loop-digit : goal.invariant-loop-digit
invariant-loop-digit l = (digits_from l.number (drop l.digit-index l.text) ≡ digits_from 0 l.text) × (l.number ≤ 10009)
