-- The definitions at worked inputs: each member absent, of a wrong kind and at its bounds, which place is named, which double attempt, in
-- which order the faults come, what one answer by itself means, and where an added one stands.
use Rattle.std.proofs.Common.{◌≡◌, ℕ, zero, suc, List, [], ◌∷◌, ◌++◌, true, Some, None, Ok, Err, pos, negsuc, refl, map}
use Rattle.std.specs.Fmt.{digits}
use Rattle.std.specs.Prelude.{codes, ◌-◌, ◌^◌, ⊤}
use Rattle.std.specs.Str.{chars, is_utf8}
use Rattle.wf_fn_time.specs.Reading.{read_time}
use Rattle.wf_places.specs.Pointer.{least}
use Rattle.wf_places.specs.Form.{places}
use Rattle.wf_retry.specs.declared.policy.Outcome.{Outcome}
use Rattle.wf_val.specs.Get.{name_of}
use Rattle.wf_val.specs.NameOrder.{put_named, without_named}
use Rattle.wf_val.specs.ValueTree.{ValueTree, null, boolean, number, text, list, object, trees, members, no_members, Member}
use Rattle.wf_answers.specs.Added.{with_added}
use Rattle.wf_answers.specs.AnswerTree.{AnswerTree, find_answer}
use Rattle.wf_answers.specs.Inputs.{InputsTree, inputs_of, with_moment}
use Rattle.wf_answers.specs.InputsForm.{inputs_form}
use Rattle.wf_answers.specs.OneAnswer.{one_answer}
use Rattle.wf_answers.specs.declared.fault.AnswerFault.{AnswerFault}
use Rattle.wf_answers.specs.declared.fault.InputsFault.{InputsFault}
use Rattle.wf_answers.specs.declared.part.Part.{Part}

-- what a row unfolds to be computed
unfoldable computed : ⊤
unfolding chars is_utf8 digits
computed = tt

abbrev of : List Member → ValueTree
of ms = object (members ms)

abbrev items : List ValueTree → ValueTree
items ts = list (trees ts)

abbrev n : ℕ → ValueTree
n k = number (pos k)

abbrev less : ℕ → ValueTree
less k = number (negsuc k)

-- a value in so many lists
abbrev nested : ℕ → ValueTree
nested zero = null
nested (suc k) = items (nested k ∷ [])

-- so many times a text
abbrev times : ℕ → List ℕ → List ℕ
times zero s = []
times (suc k) s = s ++ times k s

-- inputs of the two members that must be there, and with one more, or without one
abbrev least_members : List Member
least_members = (codes "moment", text (codes "0001-01-01T00:01")) ∷ (codes "run", text (codes "r")) ∷ []

abbrev with : List ℕ → ValueTree → ValueTree
with name v = of (put_named name_of (name, v) least_members)

abbrev without : List ℕ → ValueTree
without name = of (without_named name_of name least_members)

-- inputs with these answers, and one answer of the two members that must be there, with one more, or without one
abbrev answered : List ValueTree → ValueTree
answered answers = with (codes "answers") (items answers)

abbrev answer_members : List Member
answer_members = (codes "action", text (codes "A")) ∷ (codes "status", n 200) ∷ []

abbrev one_with : List ℕ → ValueTree → ValueTree
one_with name v = of (put_named name_of (name, v) answer_members)

abbrev one_without : List ℕ → ValueTree
one_without name = of (without_named name_of name answer_members)

abbrev answer_with : List ℕ → ValueTree → ValueTree
answer_with name v = answered (one_with name v ∷ [])

abbrev answer_without : List ℕ → ValueTree
answer_without name = answered (one_without name ∷ [])

-- an answer for an attempt at an address
abbrev answer_for : List ℕ → List ℕ → ℕ → ValueTree
answer_for name at attempt =
    of ((codes "action", text name) ∷ (codes "at", items (map n at)) ∷ (codes "attempt", n attempt) ∷ (codes "status", n 200) ∷ [])

abbrev for_a : List ℕ → ℕ → ValueTree
for_a at attempt = answer_for (codes "A") at attempt

-- two answers for one attempt
abbrev doubled : List ValueTree
doubled = of answer_members ∷ of answer_members ∷ []

abbrev IsRight : ValueTree → Type 0
IsRight t = least (places inputs_form Part.Whole t) ≡ None

abbrev IsWrongAt : ValueTree → List ℕ → Type 0
IsWrongAt t pointer = inputs_of t ≡ Err (InputsFault.Form pointer)

abbrev IsNoAnswerAt : ValueTree → List ℕ → Type 0
IsNoAnswerAt t pointer = one_answer t ≡ Err (AnswerFault.Form pointer)

abbrev IsTwice : ValueTree → List ℕ → ℕ → Type 0
IsTwice t address attempt = inputs_of t ≡ Err (InputsFault.Twice address attempt)

-- ---- the whole

right-least : IsRight (of least_members)
unfolding computed
right-least = refl

right-further : IsRight (with (codes "further") (nested 70))
unfolding computed
right-further = refl

wrong-list : IsWrongAt (items []) []
unfolding computed
wrong-list = refl

wrong-null : IsWrongAt (null) []
unfolding computed
wrong-null = refl

wrong-text : IsWrongAt (text (codes "x")) []
unfolding computed
wrong-text = refl

wrong-nothing : IsWrongAt (of []) (codes "/moment")
unfolding computed
wrong-nothing = refl

wrong-no_moment : IsWrongAt (without (codes "moment")) (codes "/moment")
unfolding computed
wrong-no_moment = refl

wrong-no_run : IsWrongAt (without (codes "run")) (codes "/run")
unfolding computed
wrong-no_run = refl

-- ---- the run's name, in characters

right-run_of_one : IsRight (with (codes "run") (text (codes "a")))
unfolding computed
right-run_of_one = refl

right-run_of_64 : IsRight (with (codes "run") (text (times 64 (codes "a"))))
unfolding computed
right-run_of_64 = refl

wrong-run_of_65 : IsWrongAt (with (codes "run") (text (times 65 (codes "a")))) (codes "/run")
unfolding computed
wrong-run_of_65 = refl

right-run_of_64_longer : IsRight (with (codes "run") (text (times 64 (195 ∷ 169 ∷ []))))
unfolding computed
right-run_of_64_longer = refl

wrong-run_of_65_longer : IsWrongAt (with (codes "run") (text (times 65 (195 ∷ 169 ∷ [])))) (codes "/run")
unfolding computed
wrong-run_of_65_longer = refl

wrong-run_empty : IsWrongAt (with (codes "run") (text [])) (codes "/run")
unfolding computed
wrong-run_empty = refl

right-run_space : IsRight (with (codes "run") (text (codes " ")))
unfolding computed
right-run_space = refl

wrong-run_31 : IsWrongAt (with (codes "run") (text (31 ∷ []))) (codes "/run")
unfolding computed
wrong-run_31 = refl

wrong-run_tab : IsWrongAt (with (codes "run") (text (97 ∷ 9 ∷ 98 ∷ []))) (codes "/run")
unfolding computed
wrong-run_tab = refl

wrong-run_127 : IsWrongAt (with (codes "run") (text (127 ∷ []))) (codes "/run")
unfolding computed
wrong-run_127 = refl

right-run_126 : IsRight (with (codes "run") (text (126 ∷ [])))
unfolding computed
right-run_126 = refl

right-run_128 : IsRight (with (codes "run") (text (194 ∷ 128 ∷ [])))
unfolding computed
right-run_128 = refl

wrong-run_number : IsWrongAt (with (codes "run") (n 1)) (codes "/run")
unfolding computed
wrong-run_number = refl

wrong-run_null : IsWrongAt (with (codes "run") (null)) (codes "/run")
unfolding computed
wrong-run_null = refl

-- ---- the moment

wrong-moment_number : IsWrongAt (with (codes "moment") (n 1)) (codes "/moment")
unfolding computed
wrong-moment_number = refl

wrong-moment_null : IsWrongAt (with (codes "moment") (null)) (codes "/moment")
unfolding computed
wrong-moment_null = refl

moment-empty : inputs_of (with (codes "moment") (text [])) ≡ Err InputsFault.Moment
unfolding computed
moment-empty = refl

moment-word : inputs_of (with (codes "moment") (text (codes "now"))) ≡ Err InputsFault.Moment
unfolding computed
moment-word = refl

-- ---- what may be absent, and is there

right-seed_empty : IsRight (with (codes "seed") (text []))
unfolding computed
right-seed_empty = refl

wrong-seed_null : IsWrongAt (with (codes "seed") (null)) (codes "/seed")
unfolding computed
wrong-seed_null = refl

wrong-seed_number : IsWrongAt (with (codes "seed") (n 1)) (codes "/seed")
unfolding computed
wrong-seed_number = refl

right-trigger_empty : IsRight (with (codes "trigger") (text []))
unfolding computed
right-trigger_empty = refl

wrong-trigger_null : IsWrongAt (with (codes "trigger") (null)) (codes "/trigger")
unfolding computed
wrong-trigger_null = refl

wrong-trigger_number : IsWrongAt (with (codes "trigger") (n 1)) (codes "/trigger")
unfolding computed
wrong-trigger_number = refl

right-outputs_null : IsRight (with (codes "outputs") (null))
unfolding computed
right-outputs_null = refl

right-outputs_64 : IsRight (with (codes "outputs") (nested 64))
unfolding computed
right-outputs_64 = refl

wrong-outputs_65 : IsWrongAt (with (codes "outputs") (nested 65)) (codes "/outputs")
unfolding computed
wrong-outputs_65 = refl

-- outputs fit as a whole, and not each of their members
wrong-outputs_member_64 : IsWrongAt (with (codes "outputs") (of ((codes "a", nested 64) ∷ []))) (codes "/outputs")
unfolding computed
wrong-outputs_member_64 = refl

wrong-parameters_null : IsWrongAt (with (codes "parameters") (null)) (codes "/parameters")
unfolding computed
wrong-parameters_null = refl

wrong-parameters_list : IsWrongAt (with (codes "parameters") (items [])) (codes "/parameters")
unfolding computed
wrong-parameters_list = refl

right-parameter_null : IsRight (with (codes "parameters") (of ((codes "p", null) ∷ [])))
unfolding computed
right-parameter_null = refl

right-parameter_64 : IsRight (with (codes "parameters") (of ((codes "p", nested 64) ∷ [])))
unfolding computed
right-parameter_64 = refl

wrong-parameter_65 : IsWrongAt (with (codes "parameters") (of ((codes "p", nested 65) ∷ []))) (codes "/parameters/p")
unfolding computed
wrong-parameter_65 = refl

wrong-parameter_member_64 : IsWrongAt (with (codes "parameters") (of ((codes "p", of ((codes "a", nested 64) ∷ [])) ∷ [])))
    (codes "/parameters/p")
unfolding computed
wrong-parameter_member_64 = refl

wrong-parameters_two :
    IsWrongAt (with (codes "parameters") (of ((codes "a/b~c", nested 65) ∷ (codes "p", nested 65) ∷ []))) (codes "/parameters/a~1b~0c")
unfolding computed
wrong-parameters_two = refl

-- ---- answers

right-no_answers : IsRight (answered [])
unfolding computed
right-no_answers = refl

wrong-answers_null : IsWrongAt (with (codes "answers") (null)) (codes "/answers")
unfolding computed
wrong-answers_null = refl

wrong-answers_object : IsWrongAt (with (codes "answers") (of [])) (codes "/answers")
unfolding computed
wrong-answers_object = refl

right-one_answer : IsRight (answered (of answer_members ∷ []))
unfolding computed
right-one_answer = refl

wrong-answer_number : IsWrongAt (answered (n 1 ∷ [])) (codes "/answers/0")
unfolding computed
wrong-answer_number = refl

wrong-answer_null : IsWrongAt (answered (of answer_members ∷ null ∷ [])) (codes "/answers/1")
unfolding computed
wrong-answer_null = refl

wrong-answer_empty : IsWrongAt (answered (of [] ∷ [])) (codes "/answers/0/action")
unfolding computed
wrong-answer_empty = refl

wrong-answer_without_action : IsWrongAt (answer_without (codes "action")) (codes "/answers/0/action")
unfolding computed
wrong-answer_without_action = refl

wrong-answer_without_status : IsWrongAt (answer_without (codes "status")) (codes "/answers/0/status")
unfolding computed
wrong-answer_without_status = refl

right-answer_further : IsRight (answer_with (codes "further") (nested 70))
unfolding computed
right-answer_further = refl

right-action_empty : IsRight (answer_with (codes "action") (text []))
unfolding computed
right-action_empty = refl

wrong-action_number : IsWrongAt (answer_with (codes "action") (n 1)) (codes "/answers/0/action")
unfolding computed
wrong-action_number = refl

right-at_none : IsRight (answer_with (codes "at") (items []))
unfolding computed
right-at_none = refl

right-at_greatest : IsRight (answer_with (codes "at") (items (n 0 ∷ n (2 ^ 63 - 1) ∷ [])))
unfolding computed
right-at_greatest = refl

wrong-at_negative : IsWrongAt (answer_with (codes "at") (items (n 0 ∷ less 0 ∷ []))) (codes "/answers/0/at/1")
unfolding computed
wrong-at_negative = refl

wrong-at_text : IsWrongAt (answer_with (codes "at") (items (text (codes "0") ∷ []))) (codes "/answers/0/at/0")
unfolding computed
wrong-at_text = refl

wrong-at_true : IsWrongAt (answer_with (codes "at") (items (boolean true ∷ []))) (codes "/answers/0/at/0")
unfolding computed
wrong-at_true = refl

wrong-at_null : IsWrongAt (answer_with (codes "at") (null)) (codes "/answers/0/at")
unfolding computed
wrong-at_null = refl

wrong-attempt_0 : IsWrongAt (answer_with (codes "attempt") (n 0)) (codes "/answers/0/attempt")
unfolding computed
wrong-attempt_0 = refl

right-attempt_1 : IsRight (answer_with (codes "attempt") (n 1))
unfolding computed
right-attempt_1 = refl

right-attempt_91 : IsRight (answer_with (codes "attempt") (n 91))
unfolding computed
right-attempt_91 = refl

wrong-attempt_92 : IsWrongAt (answer_with (codes "attempt") (n 92)) (codes "/answers/0/attempt")
unfolding computed
wrong-attempt_92 = refl

wrong-attempt_negative : IsWrongAt (answer_with (codes "attempt") (less 0)) (codes "/answers/0/attempt")
unfolding computed
wrong-attempt_negative = refl

wrong-attempt_null : IsWrongAt (answer_with (codes "attempt") (null)) (codes "/answers/0/attempt")
unfolding computed
wrong-attempt_null = refl

wrong-status_99 : IsWrongAt (answer_with (codes "status") (n 99)) (codes "/answers/0/status")
unfolding computed
wrong-status_99 = refl

right-status_100 : IsRight (answer_with (codes "status") (n 100))
unfolding computed
right-status_100 = refl

right-status_599 : IsRight (answer_with (codes "status") (n 599))
unfolding computed
right-status_599 = refl

wrong-status_600 : IsWrongAt (answer_with (codes "status") (n 600)) (codes "/answers/0/status")
unfolding computed
wrong-status_600 = refl

wrong-status_negative : IsWrongAt (answer_with (codes "status") (less 199)) (codes "/answers/0/status")
unfolding computed
wrong-status_negative = refl

right-status_noConnection : IsRight (answer_with (codes "status") (text (codes "noConnection")))
unfolding computed
right-status_noConnection = refl

right-status_timedOut : IsRight (answer_with (codes "status") (text (codes "timedOut")))
unfolding computed
right-status_timedOut = refl

wrong-status_in_another_case : IsWrongAt (answer_with (codes "status") (text (codes "noconnection"))) (codes "/answers/0/status")
unfolding computed
wrong-status_in_another_case = refl

wrong-status_noAnswer : IsWrongAt (answer_with (codes "status") (text (codes "noAnswer"))) (codes "/answers/0/status")
unfolding computed
wrong-status_noAnswer = refl

wrong-status_text : IsWrongAt (answer_with (codes "status") (text (codes "200"))) (codes "/answers/0/status")
unfolding computed
wrong-status_text = refl

right-headers_any : IsRight (answer_with (codes "headers") (of ((codes "h", nested 63) ∷ [])))
unfolding computed
right-headers_any = refl

wrong-headers_65 : IsWrongAt (answer_with (codes "headers") (of ((codes "h", nested 64) ∷ []))) (codes "/answers/0/headers")
unfolding computed
wrong-headers_65 = refl

wrong-headers_null : IsWrongAt (answer_with (codes "headers") (null)) (codes "/answers/0/headers")
unfolding computed
wrong-headers_null = refl

wrong-headers_list : IsWrongAt (answer_with (codes "headers") (items [])) (codes "/answers/0/headers")
unfolding computed
wrong-headers_list = refl

right-body_null : IsRight (answer_with (codes "body") (null))
unfolding computed
right-body_null = refl

right-body_64 : IsRight (answer_with (codes "body") (nested 64))
unfolding computed
right-body_64 = refl

wrong-body_65 : IsWrongAt (answer_with (codes "body") (nested 65)) (codes "/answers/0/body")
unfolding computed
wrong-body_65 = refl

wrong-body_member_64 : IsWrongAt (answer_with (codes "body") (of ((codes "a", nested 64) ∷ []))) (codes "/answers/0/body")
unfolding computed
wrong-body_member_64 = refl

-- ---- which of several places is named: the least by bytes

abbrev eleven : List ValueTree
eleven =
    of answer_members ∷ of answer_members ∷ null ∷ of answer_members ∷ of answer_members ∷ of answer_members ∷ of answer_members
    ∷ of answer_members ∷ of answer_members ∷ of answer_members ∷ null ∷ []

wrong-ten_before_two : IsWrongAt (answered eleven) (codes "/answers/10")
unfolding computed
wrong-ten_before_two = refl

wrong-answers_before_moment :
    IsWrongAt (of ((codes "answers", n 1) ∷ (codes "moment", n 1) ∷ (codes "run", text []) ∷ [])) (codes "/answers")
unfolding computed
wrong-answers_before_moment = refl

wrong-outputs_before_run :
    IsWrongAt (of ((codes "moment", text []) ∷ (codes "outputs", nested 65) ∷ (codes "run", n 1) ∷ [])) (codes "/outputs")
unfolding computed
wrong-outputs_before_run = refl

wrong-absent_before_present :
    IsWrongAt (of ((codes "answers", items []) ∷ (codes "outputs", nested 65) ∷ (codes "run", n 1) ∷ [])) (codes "/moment")
unfolding computed
wrong-absent_before_present = refl

wrong-attempt_before_status :
    IsWrongAt (answered (of ((codes "action", text []) ∷ (codes "attempt", n 0) ∷ (codes "status", n 1) ∷ [])
    ∷ [])) (codes "/answers/0/attempt")
unfolding computed
wrong-attempt_before_status = refl

-- ---- two answers for one attempt: the least, by address and not by its text

twice-same : IsTwice (answered (for_a [] 1 ∷ for_a [] 1 ∷ [])) (codes "A") 1
unfolding computed
twice-same = refl

twice-absent_attempt_is_1 : IsTwice (answered (of answer_members ∷ for_a [] 1 ∷ [])) (codes "A") 1
unfolding computed
twice-absent_attempt_is_1 = refl

twice-two_before_ten : IsTwice (answered (for_a (10 ∷ []) 1 ∷ for_a (2 ∷ []) 1 ∷ for_a (10 ∷ []) 1 ∷ for_a (2 ∷ []) 1 ∷ [])) (codes "A/2") 1
unfolding computed
twice-two_before_ten = refl

twice-just_ten : IsTwice (answered (for_a (10 ∷ []) 1 ∷ for_a (2 ∷ []) 1 ∷ for_a (10 ∷ []) 1 ∷ [])) (codes "A/10") 1
unfolding computed
twice-just_ten = refl

twice-address_before_attempt :
    IsTwice (answered (for_a (1 ∷ []) 3 ∷ for_a (2 ∷ []) 2 ∷ for_a (2 ∷ []) 2 ∷ for_a (1 ∷ []) 3 ∷ [])) (codes "A/1") 3
unfolding computed
twice-address_before_attempt = refl

twice-attempt_2_before_10 : IsTwice (answered (for_a [] 10 ∷ for_a [] 2 ∷ for_a [] 10 ∷ for_a [] 2 ∷ [])) (codes "A") 2
unfolding computed
twice-attempt_2_before_10 = refl

twice-front_before_list :
    IsTwice (answered (for_a (1 ∷ 2 ∷ []) 1 ∷ for_a (1 ∷ []) 1 ∷ for_a (1 ∷ 2 ∷ []) 1 ∷ for_a (1 ∷ []) 1 ∷ [])) (codes "A/1") 1
unfolding computed
twice-front_before_list = refl

twice-upper_case_first :
    IsTwice (answered (answer_for (codes "b") [] 1 ∷ answer_for (codes "B") [] 1 ∷ answer_for (codes "b") [] 1
    ∷ answer_for (codes "B") [] 1 ∷ [])) (codes "B") 1
unfolding computed
twice-upper_case_first = refl

twice-three : IsTwice (answered (answer_for (codes "B") [] 1 ∷ for_a [] 1 ∷ for_a [] 1 ∷ for_a [] 1 ∷ [])) (codes "A") 1
unfolding computed
twice-three = refl

twice-not_by_text :
    inputs_of (of ((codes "answers", items (answer_for (codes "A/0") [] 1 ∷ for_a (0 ∷ []) 1 ∷ [])) ∷ (codes "moment", text [])
    ∷ (codes "run", text (codes "r")) ∷ [])) ≡ Err InputsFault.Moment
unfolding computed
twice-not_by_text = refl

-- ---- the order of the faults

wrong-form_before_twice :
    IsWrongAt (of ((codes "answers", items doubled) ∷ (codes "moment", text []) ∷ (codes "run", n 1) ∷ [])) (codes "/run")
unfolding computed
wrong-form_before_twice = refl

twice-before_moment :
    IsTwice (of ((codes "answers", items doubled) ∷ (codes "moment", text []) ∷ (codes "run", text (codes "r")) ∷ [])) (codes "A") 1
unfolding computed
twice-before_moment = refl

-- ---- what is read

-- the moment that a text writes is worked out in the crate of time functions
read-moment : inputs_of (of least_members) ≡ with_moment (of least_members) [] (read_time (codes "0001-01-01T00:01"))
unfolding computed
read-moment = refl

read-least : with_moment (of least_members) [] (Some 600000000) ≡ Ok (record {
  run = codes "r";
  seed = [];
  moment = 600000000;
  trigger = None;
  outputs = null;
  parameters = [];
  answers = [];
})
read-least = refl

-- answers in falling order, each with other members absent
abbrev whole : ValueTree
whole = of ((
  codes "answers",
  items (
      of ((codes "action", text (codes "B")) ∷ (codes "status", text (codes "timedOut")) ∷ [])
      ∷ of ((codes "action", text (codes "A")) ∷ (codes "at", items (n 10 ∷ [])) ∷ (codes "body", n 5)
      ∷ (codes "status", text (codes "noConnection")) ∷ [])
      ∷ of ((codes "action", text (codes "A")) ∷ (codes "at", items (n 2 ∷ [])) ∷ (codes "attempt", n 2) ∷ (codes "status", n 200) ∷ [])
      ∷ of ((codes "action", text (codes "A")) ∷ (codes "at", items (n 2 ∷ [])) ∷ (codes "headers", of ((codes "h", n 1) ∷ []))
      ∷ (codes "status", n 500) ∷ [])
      ∷ []),
)
    ∷ (codes "moment", text (codes "0001-01-01"))
    ∷ (codes "outputs", of ((codes "body", n 7) ∷ []))
    ∷ (codes "parameters", of ((codes "p", n 3) ∷ []))
    ∷ (codes "run", text (codes "r 1"))
    ∷ (codes "seed", text (codes "s"))
    ∷ (codes "trigger", text (codes "t"))
    ∷ [])

abbrev first_of_a : AnswerTree
first_of_a = record {
  address = record { name = codes "A"; at = 2 ∷ [] };
  attempt = 1;
  outcome = Outcome.Code 500;
  headers = of ((codes "h", n 1) ∷ []);
  body = null;
}

abbrev second_of_a : AnswerTree
second_of_a = record {
  address = record { name = codes "A"; at = 2 ∷ [] };
  attempt = 2;
  outcome = Outcome.Code 200;
  headers = object no_members;
  body = null;
}

abbrev tenth_of_a : AnswerTree
tenth_of_a = record {
  address = record { name = codes "A"; at = 10 ∷ [] };
  attempt = 1;
  outcome = Outcome.NoConnection;
  headers = object no_members;
  body = n 5;
}

abbrev first_of_b : AnswerTree
first_of_b = record {
  address = record { name = codes "B"; at = [] };
  attempt = 1;
  outcome = Outcome.TimedOut;
  headers = object no_members;
  body = null;
}

abbrev all : List AnswerTree
all = first_of_a ∷ second_of_a ∷ tenth_of_a ∷ first_of_b ∷ []

read-answers : inputs_of whole ≡ with_moment whole all (read_time (codes "0001-01-01"))
unfolding computed
read-answers = refl

read-whole : with_moment whole all (Some 0) ≡ Ok (record {
  run = codes "r 1";
  seed = codes "s";
  moment = 0;
  trigger = Some (codes "t");
  outputs = of ((codes "body", n 7) ∷ []);
  parameters = (codes "p", n 3) ∷ [];
  answers = all;
})
read-whole = refl

-- ---- what an attempt came to

find-first : find_answer (record { name = codes "A"; at = 2 ∷ [] }, 1) all ≡ Some first_of_a
find-first = refl

find-second : find_answer (record { name = codes "A"; at = 2 ∷ [] }, 2) all ≡ Some second_of_a
find-second = refl

find-last : find_answer (record { name = codes "B"; at = [] }, 1) all ≡ Some first_of_b
find-last = refl

find-another_attempt : find_answer (record { name = codes "A"; at = 2 ∷ [] }, 3) all ≡ None
find-another_attempt = refl

find-another_place : find_answer (record { name = codes "A"; at = [] }, 1) all ≡ None
find-another_place = refl

find-another_case : find_answer (record { name = codes "b"; at = [] }, 1) all ≡ None
find-another_case = refl

find-in_none : find_answer (record { name = codes "A"; at = [] }, 1) [] ≡ None
find-in_none = refl

-- ---- one answer by itself

one-whole :
    one_answer (of ((codes "action", text (codes "A")) ∷ (codes "at", items (n 2 ∷ n 0 ∷ [])) ∷ (codes "attempt", n 91)
    ∷ (codes "body", n 5) ∷ (codes "headers", of ((codes "h", n 1) ∷ [])) ∷ (codes "status", n 404) ∷ []))
    ≡ Ok (record {
      address = record { name = codes "A"; at = 2 ∷ 0 ∷ [] };
      attempt = 91;
      outcome = Outcome.Code 404;
      headers = of ((codes "h", n 1) ∷ []);
      body = n 5;
    })
unfolding computed
one-whole = refl

-- the least answer, outside of all loops and for the first attempt, without headers and with a null body
abbrev least_answer : AnswerTree
least_answer = record {
  address = record { name = codes "A"; at = [] };
  attempt = 1;
  outcome = Outcome.Code 200;
  headers = object no_members;
  body = null;
}

one-least : one_answer (of answer_members) ≡ Ok least_answer
unfolding computed
one-least = refl

one-said : one_answer (for_a [] 1) ≡ Ok least_answer
unfolding computed
one-said = refl

one-further : one_answer (one_with (codes "further") (nested 70)) ≡ Ok least_answer
unfolding computed
one-further = refl

one-noConnection : one_answer (one_with (codes "status") (text (codes "noConnection"))) ≡ Ok (record {
  address = record { name = codes "A"; at = [] };
  attempt = 1;
  outcome = Outcome.NoConnection;
  headers = object no_members;
  body = null;
})
unfolding computed
one-noConnection = refl

no_answer-wrong_status : IsNoAnswerAt (one_with (codes "status") (n 99)) (codes "/status")
unfolding computed
no_answer-wrong_status = refl

no_answer-null_status : IsNoAnswerAt (one_with (codes "status") null) (codes "/status")
unfolding computed
no_answer-null_status = refl

no_answer-without_status : IsNoAnswerAt (one_without (codes "status")) (codes "/status")
unfolding computed
no_answer-without_status = refl

no_answer-without_action : IsNoAnswerAt (one_without (codes "action")) (codes "/action")
unfolding computed
no_answer-without_action = refl

no_answer-attempt_92 : IsNoAnswerAt (one_with (codes "attempt") (n 92)) (codes "/attempt")
unfolding computed
no_answer-attempt_92 = refl

no_answer-negative_index : IsNoAnswerAt (one_with (codes "at") (items (n 0 ∷ less 0 ∷ []))) (codes "/at/1")
unfolding computed
no_answer-negative_index = refl

no_answer-deep_body : IsNoAnswerAt (one_with (codes "body") (nested 65)) (codes "/body")
unfolding computed
no_answer-deep_body = refl

no_answer-list : IsNoAnswerAt (items (of answer_members ∷ [])) []
unfolding computed
no_answer-list = refl

no_answer-null : IsNoAnswerAt null []
unfolding computed
no_answer-null = refl

no_answer-nothing : IsNoAnswerAt (of []) (codes "/action")
unfolding computed
no_answer-nothing = refl

-- inputs are no answer, whatever answers they have
no_answer-inputs : IsNoAnswerAt (answered (of answer_members ∷ [])) (codes "/action")
unfolding computed
no_answer-inputs = refl

no_answer-two_faults :
    IsNoAnswerAt (of ((codes "action", text []) ∷ (codes "attempt", n 0) ∷ (codes "status", n 1) ∷ [])) (codes "/attempt")
unfolding computed
no_answer-two_faults = refl

-- the absent member is named at which a present one is passed
no_answer-absent_before_present : IsNoAnswerAt (of ((codes "at", null) ∷ (codes "status", n 200) ∷ [])) (codes "/action")
unfolding computed
no_answer-absent_before_present = refl

-- ---- one answer more

abbrev holding : List AnswerTree → InputsTree
holding answers = record {
  run = codes "r 1";
  seed = codes "s";
  moment = 7;
  trigger = Some (codes "t");
  outputs = n 7;
  parameters = (codes "p", n 3) ∷ [];
  answers = answers;
}

added-first_of_all : with_added (holding []) first_of_a ≡ holding (first_of_a ∷ [])
added-first_of_all = refl

added-in_front : with_added (holding (second_of_a ∷ first_of_b ∷ [])) first_of_a ≡ holding (first_of_a ∷ second_of_a ∷ first_of_b ∷ [])
added-in_front = refl

-- behind the attempt before it, and before an iteration whose number is above
added-between : with_added (holding (first_of_a ∷ tenth_of_a ∷ first_of_b ∷ [])) second_of_a ≡ holding all
added-between = refl

added-behind : with_added (holding (first_of_a ∷ second_of_a ∷ tenth_of_a ∷ [])) first_of_b ≡ holding all
added-behind = refl
