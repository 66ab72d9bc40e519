-- Why a test failed, by how its command ended: a status and a text, and under further schedules others.
use Rattle.std.specs.Prelude.{ℕ, suc, ◌+◌, List, [], ◌∷◌, ◌++◌, length, map, Bool, not, ◌&&◌, nat_eq, nat_lt, if◌then◌else◌, bytes_eq}
use Rattle.std.specs.Prelude.{Option, None, Some, Result, Ok, Err, codes, decimal, slice_get}
use Rattle.std.specs.Str.Lossy.{utf8_lossy}
use Rattle.wf_json.specs.Json.{string}
use Rattle.wf_json.specs.Read.{read_value}
use Rattle.wf_json.specs.declared.fault.JsonFault.{JsonFault}
use Rattle.wf_lines.specs.Lines.{lines_of}
use Rattle.wf_match.specs.OfRecord.{record_differences}
use Rattle.wf_val.specs.ValueTree.{ValueTree}
use Rattle.wf_suite.specs.declared.suite.Test.{Test}
use Rattle.wf_suite.specs.declared.suite.Wanted.{Wanted}
use Rattle.wf_judged.specs.Lines.{ending_number, is_summary, record_lines, records_text}
use Rattle.wf_judged.specs.Unanswered.{unanswered}
use Rattle.wf_judged.specs.Why.{Why, Differs, Says}
use Rattle.wf_judged.specs.declared.lines.Ended.{Ended}

abbrev pub unless : Bool → List ℕ → List Why
unless holds words = if holds then [] else (Says words ∷ [])

-- ---- another end than the one that is expected

abbrev pub first_of : List (List ℕ) → List ℕ
first_of [] = []
first_of (line ∷ lines) = line

-- a line as a JSON text; what isn't UTF-8 in it is told as U+FFFD
abbrev pub quoted : List ℕ → List ℕ
quoted line = string (utf8_lossy line)

-- the status, and the line
unfoldable pub end_words : ℕ → List ℕ → List ℕ
end_words status line = codes ", and it ended with " ++ decimal status ++ codes " " ++ quoted line

unfoldable pub zero_words : List ℕ
zero_words = codes ", and it ended with 0"

abbrev pub ended_with : ℕ → List ℕ → List ℕ
ended_with status text = end_words status (first_of (lines_of text))

-- the same without the line where the status is 0, since it may be a record there
abbrev pub ended_so : ℕ → List ℕ → List ℕ
ended_so status text = if nat_eq status 0 then zero_words else ended_with status text

unfoldable pub other_end : List ℕ → List ℕ → List ℕ
other_end wanted ended = codes "expected " ++ wanted ++ ended

-- ---- a check, and a refusal

unfoldable pub accepted : ℕ → List ℕ
accepted n = codes "accepted " ++ decimal n

-- the status is this one, or isn't 0; and the text is this line
abbrev pub is_accepted : ℕ → ℕ → List ℕ → Bool
is_accepted n status text = nat_eq status 0 && bytes_eq text (accepted n ++ 10 ∷ [])

abbrev pub is_refused : List ℕ → ℕ → List ℕ → Bool
is_refused line status text = not (nat_eq status 0) && bytes_eq text (line ++ 10 ∷ [])

-- ---- records

-- behind differences, and only there, stand the answers that were left out
abbrev pub and_unanswered : List Why → ValueTree → List Why
and_unanswered [] record' = []
and_unanswered (f ∷ fs) record' = (f ∷ fs) ++ unanswered record'

abbrev pub in_value : ValueTree → Result ValueTree JsonFault → List Why
in_value expected (Ok record') = and_unanswered (map Differs (record_differences expected record')) record'
in_value expected (Err fault) = Says (codes "a record is no value") ∷ []

-- which record it is, where there are several
unfoldable pub which_words : ℕ → ℕ → List ℕ
which_words place count = codes "of record " ++ decimal (place + 1) ++ codes " of " ++ decimal count ++ codes ":"

abbrev pub which : ℕ → ℕ → List Why
which place count = if nat_lt 1 count then Says (which_words place count) ∷ [] else []

abbrev pub if_any : List Why → List Why → List Why
if_any front [] = []
if_any front (f ∷ fs) = front ++ f ∷ fs

abbrev pub in_record : ℕ → ℕ → Option ValueTree → List ℕ → List Why
in_record count place None line = []
in_record count place (Some expected) line = if_any (which place count) (in_value expected (read_value line))

-- the records on these lines, from a place on
abbrev pub in_records : List ValueTree → ℕ → List (List ℕ) → List Why
in_records expected place [] = []
in_records expected place (line ∷ lines) =
    in_record (length expected) place (slice_get expected place) line ++ in_records expected (suc place) lines

unfoldable pub number_words : ℕ → ℕ → List ℕ
number_words wanted there = decimal there ++ (codes " records where " ++ (decimal wanted ++ codes " are expected"))

abbrev pub of_records : List ValueTree → List (List ℕ) → List Why
of_records expected lines =
    if nat_eq (length lines) (length expected) then in_records expected 0 lines
    else (Says (number_words (length expected) (length lines)) ∷ [])

abbrev pub if_done : List ValueTree → ℕ → List ℕ → List Why
if_done expected status text =
    if nat_eq status 0 then of_records expected (record_lines (lines_of text))
    else (Says (other_end (codes "records") (ended_with status text)) ∷ [])

-- what is expected isn't so
abbrev pub of_wanted : Wanted → ℕ → List ℕ → List Why
of_wanted (Wanted.Accepts n) status text = unless (is_accepted n status text) (other_end (quoted (accepted n)) (ended_with status text))
of_wanted (Wanted.Refused line) status text = unless (is_refused line status text) (other_end (quoted line) (ended_so status text))
of_wanted (Wanted.Records expected) status text = if_done expected status text

-- ---- peaks

-- behind the words stands which schedule it came under; nothing for the test's own
unfoldable pub peak_words : ℕ → ℕ → List ℕ → List ℕ
peak_words peak most schedule =
    codes "the peak is " ++ (decimal peak ++ (codes " where " ++ (decimal most ++ (codes " is allowed" ++ schedule))))

abbrev pub over : ℕ → List ℕ → List ℕ → List Why
over most schedule line =
    if is_summary line && nat_lt most (ending_number 0 line) then (Says (peak_words (ending_number 0 line) most schedule) ∷ []) else []

abbrev pub all_over : ℕ → List ℕ → List (List ℕ) → List Why
all_over most schedule [] = []
all_over most schedule (line ∷ lines) = over most schedule line ++ all_over most schedule lines

abbrev pub of_peaks : Option ℕ → List ℕ → List ℕ → List Why
of_peaks None schedule text = []
of_peaks (Some most) schedule text = all_over most schedule (lines_of text)

-- ---- further schedules

-- the same end, with the same records
abbrev pub is_same : Ended → Ended → Bool
is_same first ended = nat_eq first.status ended.status && bytes_eq (records_text first.text.items) (records_text ended.text.items)

unfoldable pub further_words : ℕ → List ℕ
further_words place = codes "other records come under the further schedule " ++ decimal (place + 1)

unfoldable pub where_words : ℕ → List ℕ
where_words place = codes ", under the further schedule " ++ decimal (place + 1)

abbrev pub under : Option ℕ → Ended → ℕ → Ended → List Why
under most first place ended =
    unless (is_same first ended) (further_words place)
    ++ of_peaks most (where_words place) ended.text.items

abbrev pub of_further : Option ℕ → Ended → ℕ → List Ended → List Why
of_further most first place [] = []
of_further most first place (ended ∷ others) = under most first place ended ++ of_further most first (suc place) others

-- ---- all, in this order

abbrev pub failures_of : Test → Ended → List Ended → List Why
failures_of test first others =
    of_wanted test.wanted first.status first.text.items
    ++ (of_peaks test.most [] first.text.items ++ of_further test.most first 0 others)
