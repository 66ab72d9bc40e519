use Rattle.std.proofs.Common.{◌≡◌, drop, map, option_map, string_bytes}
use Rattle.wf_val.specs.Seen.{tree}
use Rattle.wf_json.specs.Pointer.{lesser, least}
use Rattle.wf_record_form.specs.RecordForm.{unordered, unordered_after}
use Rattle.wf_record_form.proofs.neighbours.unordered.Given as goal

-- the least so far, and the least of what is left
abbrev pub invariant-loop-place : goal.invariant-loop-place
invariant-loop-place l =
    lesser (option_map string_bytes l.best) (least (unordered_after l.before l.place (map tree (drop l.place l.rows))))
    ≡ least (unordered (map tree l.rows))
