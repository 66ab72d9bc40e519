-- What tests came to at worked ends: each way to fail, with its words, and beside it the way to pass.
use Rattle.std.proofs.Common.{◌≡◌, ℕ, List, [], ◌∷◌, ◌++◌, true, false, Some, None, Ok, Err, pos, negsuc, refl, ap, ap₂}
use Rattle.std.specs.Fmt.{digits}
use Rattle.std.specs.Prelude.{codes, ⊤, ◌&&◌, bytes_eq, nat_eq}
use Rattle.wf_json.specs.declared.fault.JsonFault.{JsonFault}
use Rattle.wf_lines.specs.Lines.{lines_of}
use Rattle.wf_suite.specs.declared.suite.Wanted.{Wanted}
use Rattle.wf_val.specs.ValueTree.{ValueTree, list, members, number, object, text, trees}
use Rattle.wf_judged.specs.Failures.{end_words, in_value, is_same, number_words, of_peaks, of_wanted, other_end, peak_words}
use Rattle.wf_judged.specs.Failures.{accepted, further_words, if_any, quoted, where_words, which, which_words, zero_words}
use Rattle.wf_judged.specs.Lines.{ending_number, is_summary, record_lines, records_text}
use Rattle.wf_judged.specs.Unanswered.{unanswered, unanswered_words}
use Rattle.wf_judged.specs.Why.{Why, Differs, Says}
use Rattle.wf_judged.specs.declared.lines.Ended.{Ended}

-- what a row unfolds to be computed
unfoldable computed : ⊤
unfolding digits end_words number_words other_end peak_words where_words which_words zero_words accepted further_words unanswered_words
computed = tt

abbrev feed : List ℕ
feed = 10 ∷ []

-- ---- lines

-- a record, and the line on its run
abbrev two_lines : List ℕ
two_lines = codes "{\"a\":1}" ++ (feed ++ (codes "# run r9 steps 24 peak 13" ++ feed))

lines-of_records : record_lines (lines_of two_lines) ≡ codes "{\"a\":1}" ∷ []
lines-of_records = refl

lines-text : records_text two_lines ≡ codes "{\"a\":1}" ++ feed
lines-text = refl

lines-no_run : record_lines (lines_of (codes "# no run" ++ feed)) ≡ []
lines-no_run = refl

summary-is : is_summary (codes "# run r9 steps 24 peak 13") ≡ true
summary-is = refl

summary-no_run : is_summary (codes "# no run") ≡ false
summary-no_run = refl

number-at_the_end : ending_number 0 (codes "# run r9 steps 24 peak 13") ≡ 13
number-at_the_end = refl

number-none : ending_number 0 (codes "peak 13 ") ≡ 0
number-none = refl

-- ---- a check

accepts-so_many : of_wanted (Wanted.Accepts 7) 0 (codes "accepted 7" ++ feed) ≡ []
unfolding computed
accepts-so_many = refl

-- behind what is expected, the status and the first line
abbrev seven_but : List ℕ → List Why
seven_but end = Says (codes "expected " ++ quoted (codes "accepted 7") ++ end) ∷ []

accepts-another : of_wanted (Wanted.Accepts 7) 0 (codes "accepted 8" ++ feed)
    ≡ seven_but (codes ", and it ended with 0 " ++ quoted (codes "accepted 8"))
unfolding computed
accepts-another = refl

accepts-refused : of_wanted (Wanted.Accepts 7) 1 (codes "definition V6 \"/actions/A\"" ++ feed)
    ≡ seven_but (codes ", and it ended with 1 " ++ quoted (codes "definition V6 \"/actions/A\""))
unfolding computed
accepts-refused = refl

accepts-without_its_end : of_wanted (Wanted.Accepts 7) 0 (codes "accepted 7")
    ≡ seven_but (codes ", and it ended with 0 " ++ quoted (codes "accepted 7"))
unfolding computed
accepts-without_its_end = refl

accepts-nothing_said : of_wanted (Wanted.Accepts 7) 0 [] ≡ seven_but (codes ", and it ended with 0 " ++ quoted [])
unfolding computed
accepts-nothing_said = refl

-- ---- a refusal

abbrev refused : ℕ → List ℕ → List Why
refused status line = of_wanted (Wanted.Refused (codes "inputs Moment")) status (line ++ feed)

refused-so : refused 6 (codes "inputs Moment") ≡ []
unfolding computed
refused-so = refl

refused-done : refused 0 (codes "inputs Moment")
    ≡ Says (codes "expected " ++ quoted (codes "inputs Moment") ++ codes ", and it ended with 0") ∷ []
unfolding computed
refused-done = refl

-- ---- records

records-none : of_wanted (Wanted.Records []) 0 (codes "# no run" ++ feed) ≡ []
unfolding computed
records-none = refl

records-one_lacks : of_wanted (Wanted.Records (object (members []) ∷ [])) 0 (codes "# no run" ++ feed)
    ≡ Says (codes "0 records where 1 are expected") ∷ []
unfolding computed
records-one_lacks = refl

-- that it Succeeded, and a record that did, and one that didn't
abbrev with_status : List ℕ → ValueTree
with_status s = object (members ((codes "status", text s) ∷ []))

value-same : in_value (with_status (codes "Succeeded")) (Ok (with_status (codes "Succeeded"))) ≡ []
value-same = refl

value-other : in_value (with_status (codes "Succeeded")) (Ok (with_status (codes "Failed"))) ≡ Differs (record {
  pointer = codes "/status";
  expected = text (codes "Succeeded");
  found = Some (text (codes "Failed"));
}) ∷ []
value-other = refl

value-none : in_value (with_status (codes "Succeeded")) (Err JsonFault.NotJson) ≡ Says (codes "a record is no value") ∷ []
value-none = refl

-- ---- answers that were left out

-- a row of so many attempts
abbrev row : List ℕ → List ValueTree → List ℕ → List ValueTree → ValueTree
row name at' code attempts = object (members (
    (codes "at", list (trees at')) ∷ (codes "attempts", list (trees attempts)) ∷ (codes "code", text code) ∷ (codes "name", text name)
    ∷ []))

abbrev answered : ValueTree
answered = row (codes "Get") [] (codes "200") (number (pos 200) ∷ [])

-- the first attempt of `Pay` had no answer; nor had the second of `Line` in iteration 3 of a loop in iteration 0 of another
abbrev first_left_out : ValueTree
first_left_out = row (codes "Pay") [] (codes "NoAnswer") (text (codes "noAnswer") ∷ [])

abbrev looped : ValueTree
looped =
    row (codes "Line") (number (pos 0) ∷ number (pos 3) ∷ []) (codes "NoAnswer") (number (pos 503) ∷ text (codes "noAnswer") ∷ [])

abbrev record_of : List ValueTree → ValueTree
record_of rows = object (members ((codes "rows", list (trees rows)) ∷ (codes "status", text (codes "Failed")) ∷ []))

unanswered-none : unanswered (record_of (answered ∷ [])) ≡ []
unanswered-none = refl

unanswered-one : unanswered (record_of (answered ∷ first_left_out ∷ [])) ≡ Says (codes "\"Pay\" had no answer to attempt 1") ∷ []
unfolding computed
unanswered-one = refl

unanswered-in_order : unanswered (record_of (looped ∷ answered ∷ first_left_out ∷ []))
    ≡ Says (codes "\"Line/0/3\" had no answer to attempt 2") ∷ Says (codes "\"Pay\" had no answer to attempt 1") ∷ []
unfolding computed
unanswered-in_order = refl

unanswered-quoted : unanswered (record_of (row (codes "a\"b") [] (codes "NoAnswer") (text (codes "noAnswer") ∷ []) ∷ []))
    ≡ Says (codes "\"a\\\"b\" had no answer to attempt 1") ∷ []
unfolding computed
unanswered-quoted = refl

unanswered-behind_differences : in_value (with_status (codes "Succeeded")) (Ok (record_of (first_left_out ∷ [])))
    ≡ Differs (record {
      pointer = codes "/status";
      expected = text (codes "Succeeded");
      found = Some (text (codes "Failed"));
    }) ∷ Says (codes "\"Pay\" had no answer to attempt 1") ∷ []
unfolding computed
unanswered-behind_differences = refl

unanswered-in_second_record :
    if_any (which 1 2) (in_value (object (members ((codes "run", text (codes "r")) ∷ []))) (Ok (record_of (first_left_out ∷ []))))
    ≡ Says (codes "of record 2 of 2:")
    ∷ Differs (record { pointer = codes "/run"; expected = text (codes "r"); found = None })
    ∷ Says (codes "\"Pay\" had no answer to attempt 1") ∷ []
unfolding computed
unanswered-in_second_record = refl

unanswered-where_nothing_differs : in_value (with_status (codes "Failed")) (Ok (record_of (first_left_out ∷ []))) ≡ []
unanswered-where_nothing_differs = refl

-- a row with other members, whose code is the one that tells
abbrev says_nothing : List (List ℕ × ValueTree) → Type 0
says_nothing more = unanswered (record_of (object (members ((codes "code", text (codes "NoAnswer")) ∷ more)) ∷ [])) ≡ []

nothing_said-no_name : says_nothing ((codes "at", list (trees [])) ∷ (codes "attempts", list (trees [])) ∷ [])
nothing_said-no_name = refl

nothing_said-name_is_no_text : says_nothing (
    (codes "at", list (trees [])) ∷ (codes "attempts", list (trees [])) ∷ (codes "name", number (pos 1)) ∷ [])
nothing_said-name_is_no_text = refl

nothing_said-no_numbers : says_nothing ((codes "attempts", list (trees [])) ∷ (codes "name", text (codes "Pay")) ∷ [])
nothing_said-no_numbers = refl

nothing_said-negative : says_nothing (
    (codes "at", list (trees (number (pos 0) ∷ number (negsuc 0) ∷ [])))
    ∷ (codes "attempts", list (trees [])) ∷ (codes "name", text (codes "Pay")) ∷ [])
nothing_said-negative = refl

nothing_said-number_is_a_text : says_nothing (
    (codes "at", list (trees (text (codes "0") ∷ []))) ∷ (codes "attempts", list (trees [])) ∷ (codes "name", text (codes "Pay")) ∷ [])
nothing_said-number_is_a_text = refl

nothing_said-no_attempts : says_nothing (
    (codes "at", list (trees [])) ∷ (codes "attempts", number (pos 1)) ∷ (codes "name", text (codes "Pay")) ∷ [])
nothing_said-no_attempts = refl

unanswered-another_code : unanswered (record_of (row (codes "Pay") [] (codes "noAnswer") (text (codes "noAnswer") ∷ []) ∷ [])) ≡ []
unanswered-another_code = refl

unanswered-code_is_no_text : unanswered (record_of (object (members ((codes "code", number (pos 404)) ∷ [])) ∷ [])) ≡ []
unanswered-code_is_no_text = refl

unanswered-no_rows : unanswered (with_status (codes "Failed")) ≡ []
unanswered-no_rows = refl

-- ---- peaks

peak-within : of_peaks (Some 13) [] two_lines ≡ []
unfolding computed
peak-within = refl

peak-over : of_peaks (Some 12) [] two_lines ≡ Says (codes "the peak is 13 where 12 is allowed") ∷ []
unfolding computed
peak-over = refl

peak-unbounded : of_peaks None [] two_lines ≡ []
peak-unbounded = refl

-- ---- further schedules

further-peak : of_peaks (Some 12) (where_words 1) two_lines
    ≡ Says (codes "the peak is 13 where 12 is allowed, under the further schedule 2") ∷ []
unfolding computed
further-peak = refl

further-records : further_words 0 ≡ codes "other records come under the further schedule 1"
unfolding computed
further-records = refl

-- ends with these statuses and texts
ends : (a b : Ended) (s t : ℕ) (x y : List ℕ) → a.status ≡ s → b.status ≡ t → a.text.items ≡ x → b.text.items ≡ y
    → is_same a b ≡ (nat_eq s t && bytes_eq (records_text x) (records_text y))
ends a b s t x y of_a of_b is_a is_b =
    ap₂ (λ m n. m && n) (ap₂ nat_eq of_a of_b) (ap₂ bytes_eq (ap records_text is_a) (ap records_text is_b))

abbrev of_run : List ℕ → List ℕ → List ℕ
of_run line summary = line ++ (feed ++ (summary ++ feed))

same-another_summary : (a b : Ended) → a.status ≡ 0 → b.status ≡ 0 → a.text.items ≡ two_lines
    → b.text.items ≡ of_run (codes "{\"a\":1}") (codes "# run r9 steps 30 peak 2") → is_same a b ≡ true
same-another_summary a b of_a of_b is_a is_b = ends a b 0 0 _ _ of_a of_b is_a is_b

same-another_record : (a b : Ended) → a.status ≡ 0 → b.status ≡ 0 → a.text.items ≡ two_lines
    → b.text.items ≡ of_run (codes "{\"a\":2}") (codes "# run r9 steps 24 peak 13") → is_same a b ≡ false
same-another_record a b of_a of_b is_a is_b = ends a b 0 0 _ _ of_a of_b is_a is_b

same-another_status : (a b : Ended) → a.status ≡ 0 → b.status ≡ 8 → a.text.items ≡ [] → b.text.items ≡ [] → is_same a b ≡ false
same-another_status a b of_a of_b is_a is_b = ends a b 0 8 _ _ of_a of_b is_a is_b
