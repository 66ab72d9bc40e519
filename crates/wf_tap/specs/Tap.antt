-- The text of a report in the Test Anything Protocol, version 14: a line for each outcome, and behind one that failed a comment for each
-- failure. Where there are several files, the first comment names the file.
use Rattle.std.specs.Prelude.{ℕ, suc, List, [], ◌∷◌, ◌++◌, length, map, flat_map, codes, decimal, Bool, nat_lt, if◌then◌else◌}
use Rattle.wf_json.specs.Json.{string}
use Rattle.wf_tap.specs.Escapes.{escaped}
use Rattle.wf_tap.specs.Lines.{ended, failure_line}
use Rattle.wf_tap.specs.declared.escapes.Place.{Place}
use Rattle.wf_tap.specs.declared.report.Failure.{Failure}
use Rattle.wf_tap.specs.declared.report.Outcome.{Outcome}
use Rattle.wf_tap.specs.declared.report.Results.{Results}

-- an outcome with the file that it is of
abbrev pub Point : Type 0
Point = List ℕ × Outcome

-- the outcomes of all files, in order
abbrev pub points : List Results → List Point
points rs = flat_map (λ r. map (λ o. (r.file, o)) r.outcomes) rs

abbrev pub verdict : List Failure → List ℕ
verdict [] = codes "ok "
verdict (f ∷ fs) = codes "not ok "

-- the line of the n-th outcome
abbrev pub point_line : ℕ → Outcome → List ℕ
point_line n o = verdict o.failures ++ (decimal n ++ (codes " - " ++ escaped Place.Name o.name))

abbrev pub file_line : List ℕ → List ℕ
file_line file = codes "# in " ++ string file

abbrev pub file_lines : Bool → List ℕ → List (List ℕ)
file_lines several file = if several then file_line file ∷ [] else []

abbrev pub comment_line : Failure → List ℕ
comment_line f = codes "# " ++ failure_line f

-- the lines behind it
abbrev pub comment_lines : Bool → List ℕ → List Failure → List (List ℕ)
comment_lines several file [] = []
comment_lines several file (f ∷ fs) = file_lines several file ++ map comment_line (f ∷ fs)

abbrev pub lines_from : Bool → ℕ → List Point → List (List ℕ)
lines_from several n [] = []
lines_from several n (p ∷ ps) = point_line n p.1 ∷ (comment_lines several p.0 p.1.failures ++ lines_from several (suc n) ps)

abbrev pub plan_line : ℕ → List ℕ
plan_line n = codes "1.." ++ decimal n

abbrev pub tap_lines : List Results → List (List ℕ)
tap_lines rs = codes "TAP version 14" ∷ plan_line (length (points rs)) ∷ lines_from (nat_lt 1 (length rs)) 1 (points rs)

abbrev pub tap_of : List Results → List ℕ
tap_of rs = ended (tap_lines rs)
