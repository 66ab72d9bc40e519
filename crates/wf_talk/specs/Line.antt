-- A line of a talk: the answer that it says, or why it is refused.
use Rattle.std.specs.Prelude.{ℕ, List, [], ◌∷◌, ◌++◌, Bool, true, false, Result, Ok, Err, codes, decimal}
use Rattle.wf_answers.specs.AnswerTree.{AnswerTree, Key, key_of}
use Rattle.wf_answers.specs.OneAnswer.{one_answer}
use Rattle.wf_answers.specs.declared.fault.AnswerFault.{AnswerFault}
use Rattle.wf_json.specs.Json.{string}
use Rattle.wf_json.specs.Read.{read_value}
use Rattle.wf_json.specs.declared.fault.JsonFault.{JsonFault}
use Rattle.wf_lines.specs.Lines.{without_return}
use Rattle.wf_talk.specs.Keys.{is_among}
use Rattle.wf_talk.specs.declared.fault.LineFault.{LineFault}
use Rattle.wf_val.specs.Address.{address_text}
use Rattle.wf_val.specs.ValueTree.{ValueTree}

-- a fault of the JSON text, as one of the line
abbrev pub json_fault : JsonFault → LineFault
json_fault JsonFault.NotJson = LineFault.NotJson
json_fault (JsonFault.NotWhole pointer) = LineFault.NotWhole pointer
json_fault (JsonFault.TooDeep pointer) = LineFault.TooDeep pointer
json_fault JsonFault.Memory = LineFault.Memory

-- a fault of the answer's form
abbrev pub form_fault : AnswerFault → LineFault
form_fault (AnswerFault.Form pointer) = LineFault.Form pointer
form_fault AnswerFault.Memory = LineFault.Memory

abbrev pub or_form_fault : Result AnswerTree AnswerFault → Result AnswerTree LineFault
or_form_fault (Ok a) = Ok a
or_form_fault (Err fault) = Err (form_fault fault)

abbrev pub answer_in : Result ValueTree JsonFault → Result AnswerTree LineFault
answer_in (Ok value) = or_form_fault (one_answer value)
answer_in (Err fault) = Err (json_fault fault)

-- THE ANSWER THAT A LINE SAYS: the line is a JSON text, and its value is of the form of an answer
abbrev pub read_answer : List ℕ → Result AnswerTree LineFault
read_answer line = answer_in (read_value line)

-- a fault as it is printed; want of memory is none, and has a line of its own
abbrev pub fault_words : LineFault → List ℕ
fault_words LineFault.NotJson = codes "NotJson"
fault_words (LineFault.NotWhole pointer) = codes "NotWhole " ++ string pointer
fault_words (LineFault.TooDeep pointer) = codes "TooDeep " ++ string pointer
fault_words (LineFault.Form pointer) = codes "Form " ++ string pointer
fault_words LineFault.Memory = []

-- that no answer is wanted for this attempt
abbrev pub not_wanted_words : Key → List ℕ
not_wanted_words k = codes "NotWanted " ++ (string (address_text k.0) ++ (32 ∷ decimal k.1))

-- What a line comes to where answers for these attempts are wanted: nothing, a fault as it is printed, or an answer that is wanted.
pub data Heard : Type 0 where
  Nothing : Heard
  Refused : List ℕ → Heard
  Accepted : AnswerTree → Heard

abbrev pub if_wanted : Bool → AnswerTree → Heard
if_wanted true a = Accepted a
if_wanted false a = Refused (not_wanted_words (key_of a))

abbrev pub heard_answer : List Key → Result AnswerTree LineFault → Heard
heard_answer wanted (Ok a) = if_wanted (is_among (key_of a) wanted) a
heard_answer wanted (Err fault) = Refused (fault_words fault)

abbrev pub heard_text : List Key → List ℕ → Heard
heard_text wanted [] = Nothing
heard_text wanted (b ∷ text) = heard_answer wanted (read_answer (b ∷ text))

-- A carriage return at the line's end doesn't count.
abbrev pub heard : List Key → List ℕ → Heard
heard wanted line = heard_text wanted (without_return line)
