use Rattle.std.proofs.Common.{◌≡◌, drop}
use Rattle.std.specs.Prelude.{flat_map}
use Rattle.wf_json.specs.Json.{escaped}
use Rattle.wf_record.proofs.plain.is_short_plain.Given as goal

-- what is to be seen of the bytes that are left
abbrev pub invariant-loop-byte : goal.invariant-loop-byte
invariant-loop-byte l =
    flat_map escaped (drop l.byte-index l.text) ≡ drop l.byte-index l.text
    → flat_map escaped l.text ≡ l.text
