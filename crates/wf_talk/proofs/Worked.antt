-- Worked values of the definitions of a talk.
use Rattle.std.proofs.Common.{◌≡◌, ℕ, List, [], ◌∷◌, ◌++◌, true, false, Ok, Err, refl, ap}
use Rattle.std.specs.Fmt.{digits}
use Rattle.std.specs.Prelude.{codes}
use Rattle.wf_answers.specs.AnswerTree.{AnswerTree, Key, key_of}
use Rattle.wf_answers.specs.Inputs.{InputsTree}
use Rattle.wf_answers.specs.declared.fault.AnswerFault.{AnswerFault}
use Rattle.wf_json.specs.Json.{string}
use Rattle.wf_json.specs.declared.fault.JsonFault.{JsonFault}
use Rattle.wf_talk.specs.Hearing.{Hearing, Over, left_by, opening, refused_line, summary_line, told}
use Rattle.wf_talk.specs.Keys.{fresh, is_among, open_lines, want_lines}
use Rattle.wf_talk.specs.Line.{Accepted, Nothing, Refused, answer_in, fault_words, heard, heard_answer, if_wanted, not_wanted_words}
use Rattle.wf_talk.specs.Line.{or_form_fault}
use Rattle.wf_talk.specs.Standing.{TooLarge, Waits, Ends}
use Rattle.wf_talk.specs.Talks.{cannot_read_input, input_ended, most_bytes, out_of_memory, too_long}
use Rattle.wf_talk.specs.Whole.{rest_of, unended, whole_lines}
use Rattle.wf_talk.specs.declared.fault.LineFault.{LineFault}

-- ---- lines that have come, and what is behind them

no_bytes-lines : whole_lines [] ≡ []
no_bytes-lines = refl

no_feed-lines : whole_lines (codes "ab") ≡ []
no_feed-lines = refl

no_feed-rest : rest_of (codes "ab") ≡ codes "ab"
no_feed-rest = refl

one-lines : whole_lines (codes "ab\n") ≡ codes "ab" ∷ []
one-lines = refl

one-rest : rest_of (codes "ab\n") ≡ []
one-rest = refl

-- empty lines count
empty-lines : whole_lines (codes "\na\n\nb") ≡ [] ∷ codes "a" ∷ [] ∷ []
empty-lines = refl

empty-rest : rest_of (codes "\na\n\nb") ≡ codes "b"
empty-rest = refl

-- a carriage return ends no line
return-lines : whole_lines (97 ∷ 13 ∷ 98 ∷ 10 ∷ 13 ∷ []) ≡ (97 ∷ 13 ∷ 98 ∷ []) ∷ []
return-lines = refl

return-rest : rest_of (97 ∷ 13 ∷ 98 ∷ 10 ∷ 13 ∷ []) ≡ 13 ∷ []
return-rest = refl

-- nor do the bytes beside a line feed
others-lines : whole_lines (9 ∷ 11 ∷ []) ≡ []
others-lines = refl

no_rest-unended : unended [] ≡ []
no_rest-unended = refl

some_rest-unended : unended (codes "b") ≡ codes "b" ∷ []
some_rest-unended = refl

-- ---- attempts

abbrev a1 : Key
a1 = (record { name = codes "A"; at = [] }, 1)

abbrev a2 : Key
a2 = (record { name = codes "A"; at = [] }, 2)

abbrev b1 : Key
b1 = (record { name = codes "B"; at = [] }, 1)

abbrev c1_3 : Key
c1_3 = (record { name = codes "C"; at = 3 ∷ [] }, 1)

among-one : is_among b1 (a1 ∷ b1 ∷ []) ≡ true
among-one = refl

-- another attempt of the same action isn't the same
among-other_attempt : is_among a2 (a1 ∷ b1 ∷ []) ≡ false
among-other_attempt = refl

-- nor is another iteration
among-other_iteration : is_among c1_3 ((record { name = codes "C"; at = 2 ∷ [] }, 1) ∷ []) ≡ false
among-other_iteration = refl

among-none : is_among a1 [] ≡ false
among-none = refl

fresh-new : fresh (a1 ∷ b1 ∷ []) (a2 ∷ b1 ∷ c1_3 ∷ []) ≡ a2 ∷ c1_3 ∷ []
fresh-new = refl

fresh-first : fresh [] (a1 ∷ b1 ∷ []) ≡ a1 ∷ b1 ∷ []
fresh-first = refl

fresh-none : fresh (a1 ∷ b1 ∷ []) (b1 ∷ []) ≡ []
fresh-none = refl

-- ---- texts

lines-want : want_lines (b1 ∷ c1_3 ∷ []) ≡ codes "# want B 1\n# want C/3 1\n"
unfolding digits
lines-want = refl

lines-open : open_lines (a2 ∷ []) ≡ codes "# open A 2\n"
unfolding digits
lines-open = refl

line-refused : refused_line 12 (codes "NotJson") ≡ codes "# refused 12 NotJson\n"
unfolding digits
line-refused = refl

line-summary : summary_line 4 0 ≡ codes "# session lines 4 refused 0\n"
unfolding digits
line-summary = refl

words-not_whole : (pointer : List ℕ) → fault_words (LineFault.NotWhole pointer) ≡ codes "NotWhole " ++ string pointer
words-not_whole pointer = refl

words-too_deep : (pointer : List ℕ) → fault_words (LineFault.TooDeep pointer) ≡ codes "TooDeep " ++ string pointer
words-too_deep pointer = refl

words-form : (pointer : List ℕ) → fault_words (LineFault.Form pointer) ≡ codes "Form " ++ string pointer
words-form pointer = refl

words-not_wanted : not_wanted_words b1 ≡ codes "NotWanted \"B\" 1"
unfolding digits
words-not_wanted = refl

-- ---- what a line comes to

no_text-heard : heard (a1 ∷ []) [] ≡ Nothing
no_text-heard = refl

-- a carriage return alone is no text
return-heard : heard (a1 ∷ []) (13 ∷ []) ≡ Nothing
return-heard = refl

not_json-heard : (wanted : List Key) → heard_answer wanted (answer_in (Err JsonFault.NotJson)) ≡ Refused (codes "NotJson")
not_json-heard wanted = refl

form-heard : (wanted : List Key) → heard_answer wanted (or_form_fault (Err (AnswerFault.Form (codes "/status")))) ≡ Refused
    (codes "Form \"/status\"")
form-heard wanted = refl

-- an answer is accepted where it is wanted
wanted-heard : (wanted : List Key) (a : AnswerTree) → is_among (key_of a) wanted ≡ true → heard_answer wanted (Ok a) ≡ Accepted a
wanted-heard wanted a is = ap (λ test. if_wanted test a) is

unwanted-heard : (wanted : List Key) (a : AnswerTree) → is_among (key_of a) wanted ≡ false
    → heard_answer wanted (Ok a) ≡ Refused (not_wanted_words (key_of a))
unwanted-heard wanted a is = ap (λ test. if_wanted test a) is

-- ---- where the run stands

too_large-told : (h : Hearing) → told h TooLarge ≡ codes "too large\n"
too_large-told h = refl

too_large-over : (h : Hearing) → left_by h TooLarge ≡ Over 8
too_large-over h = refl

ended-over : (h : Hearing) (line : List ℕ) → left_by h (Ends line) ≡ Over 0
ended-over h line = refl

-- at first all that is wanted is told
first-told : (inputs : InputsTree) → told (opening inputs) (Waits (a1 ∷ [])) ≡ codes "# want A 1\n"
unfolding digits
first-told inputs = refl

-- a run that waits for nothing is told with no line taken
ended_at_once-told : (inputs : InputsTree) → told (opening inputs) (Ends (codes "{}\n")) ≡ codes "{}\n# session lines 0 refused 0\n"
unfolding digits
ended_at_once-told inputs = refl

-- ---- limits and last texts

limit : most_bytes ≡ 67108864
limit = refl

text-ended : input_ended ≡ codes "input ended\n"
text-ended = refl

text-too_long : too_long ≡ codes "session too long\n"
text-too_long = refl

text-unread : cannot_read_input ≡ codes "cannot read input\n"
text-unread = refl

text-spent : out_of_memory ≡ codes "out of memory\n"
text-spent = refl
