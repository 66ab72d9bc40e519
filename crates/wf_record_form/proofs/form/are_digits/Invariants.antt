use Rattle.std.proofs.Common.{◌≡◌, drop}
use Rattle.std.specs.List.{list_all}
use Rattle.wf_record_form.specs.RecordForm.{is_digit}
use Rattle.wf_record_form.proofs.form.are_digits.Given as goal

-- the bytes so far are digits, and those that are left decide
abbrev pub invariant-loop-byte : goal.invariant-loop-byte
invariant-loop-byte l = list_all is_digit (drop l.byte-index l.byte-items) ≡ list_all is_digit l.text
