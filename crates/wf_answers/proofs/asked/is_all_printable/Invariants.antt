use Rattle.std.proofs.Common.{◌≡◌, drop}
use Rattle.std.specs.List.{list_all}
use Rattle.wf_answers.specs.Asked.{is_printable}
use Rattle.wf_answers.proofs.asked.is_all_printable.Given as goal

-- the bytes so far are printable, and those that are left decide
abbrev pub invariant-loop-byte : goal.invariant-loop-byte
invariant-loop-byte l = list_all is_printable (drop l.byte-index l.byte-items) ≡ list_all is_printable l.text
