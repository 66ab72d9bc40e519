use Rattle.std.proofs.Common.{◌≡◌, drop}
use Rattle.wf_judged.specs.Lines.{ending_number}
use Rattle.wf_judged.proofs.lines.ending_number.Given as goal

-- what the digits so far come to, with the bytes that are left
abbrev pub invariant-loop-byte : goal.invariant-loop-byte
invariant-loop-byte l = ending_number l.number (drop l.byte-index l.line) ≡ ending_number 0 l.line
