-- The text of a report as an XML file (XML 1.0) in the form that is named after JUnit: a suite for each file, a case for each outcome,
-- and in a case that failed one element with a line for each failure.
use Rattle.std.specs.Prelude.{ℕ, suc, List, [], ◌∷◌, ◌++◌, length, map, flat_map, codes, decimal}
use Rattle.wf_tap.specs.Escapes.{escaped}
use Rattle.wf_tap.specs.Lines.{ended, failure_line}
use Rattle.wf_tap.specs.declared.escapes.Place.{Place}
use Rattle.wf_tap.specs.declared.report.Failure.{Failure}
use Rattle.wf_tap.specs.declared.report.Outcome.{Outcome}
use Rattle.wf_tap.specs.declared.report.Results.{Results}

abbrev pub xml : List ℕ → List ℕ
xml s = escaped Place.Xml s

-- one more where there is a failure
abbrev pub failed_too : List Failure → ℕ → ℕ
failed_too [] n = n
failed_too (f ∷ fs) n = suc n

-- how many outcomes have a failure
abbrev pub failed : List Outcome → ℕ
failed [] = 0
failed (o ∷ os) = failed_too o.failures (failed os)

abbrev pub xml_line : Failure → List ℕ
xml_line f = xml (failure_line f)

-- the tag of a case, as far as its end
abbrev pub case_line : List ℕ → List ℕ → List ℕ → List ℕ
case_line file name end = codes "    <testcase classname=\"" ++ (file ++ (codes "\" name=\"" ++ (name ++ end)))

-- the tag of its failures, which tells the first
abbrev pub failure_tag : Failure → List ℕ
failure_tag f = codes "      <failure message=\"" ++ (xml_line f ++ codes "\">")

abbrev pub failure_lines : List Failure → List (List ℕ)
failure_lines [] = []
failure_lines (f ∷ fs) = failure_tag f ∷ (map xml_line (f ∷ fs) ++ codes "      </failure>" ∷ codes "    </testcase>" ∷ [])

abbrev pub case_end : List Failure → List ℕ
case_end [] = codes "\"/>"
case_end (f ∷ fs) = codes "\">"

abbrev pub case_lines : List ℕ → Outcome → List (List ℕ)
case_lines file o = case_line (xml file) (xml o.name) (case_end o.failures) ∷ failure_lines o.failures

abbrev pub suite_line : List ℕ → ℕ → ℕ → List ℕ
suite_line file tests failures =
    codes "  <testsuite name=\"" ++ (file ++ (codes "\" tests=\"" ++ (decimal tests ++ (codes "\" failures=\""
    ++ (decimal failures ++ codes "\">")))))

abbrev pub first_line : Results → List ℕ
first_line r = suite_line (xml r.file) (length r.outcomes) (failed r.outcomes)

abbrev pub suite_lines : Results → List (List ℕ)
suite_lines r =
    first_line r ∷ (flat_map (case_lines r.file) r.outcomes ++ codes "  </testsuite>" ∷ [])

abbrev pub root_lines : List Results → List (List ℕ)
root_lines rs = codes "<testsuites>" ∷ (flat_map suite_lines rs ++ codes "</testsuites>" ∷ [])

abbrev pub junit_lines : List Results → List (List ℕ)
junit_lines rs = codes "<?xml version=\"1.0\" encoding=\"UTF-8\"?>" ∷ root_lines rs

abbrev pub junit_of : List Results → List ℕ
junit_of rs = ended (junit_lines rs)
