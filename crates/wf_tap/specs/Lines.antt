-- What a report says of a failure, on one line, and lines with their ends.
use Rattle.std.specs.Prelude.{ℕ, List, [], ◌∷◌, ◌++◌, flat_map, codes, Option, Some, None}
use Rattle.wf_json.specs.Json.{json, string}
use Rattle.wf_match.specs.Told.{Told, told}
use Rattle.wf_tap.specs.Escapes.{escaped}
use Rattle.wf_tap.specs.declared.escapes.Place.{Place}
use Rattle.wf_tap.specs.declared.report.Failure.{Failure}
use Rattle.wf_val.specs.ValueTree.{ValueTree}

abbrev pub found_text : Option ValueTree → List ℕ
found_text None = codes "nothing"
found_text (Some t) = json t

abbrev pub line_of : List ℕ → List ℕ → List ℕ → List ℕ
line_of pointer expected found = pointer ++ (codes ": expected " ++ (expected ++ (codes ", found " ++ found)))

-- the pointer as a JSON text, and the values as JSON
abbrev pub told_line : Told → List ℕ
told_line d = line_of (string d.pointer) (json d.expected) (found_text d.found)

abbrev pub failure_line : Failure → List ℕ
failure_line (Failure.Differs d) = told_line (told d)
failure_line (Failure.Says s) = escaped Place.Line s

-- lines, each with its end
abbrev pub ended : List (List ℕ) → List ℕ
ended ls = flat_map (λ l. l ++ 10 ∷ []) ls
