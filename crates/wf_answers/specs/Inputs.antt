-- Which inputs a value means, or why it means none: it isn't of the form, two answers are for one attempt, the moment is no timestamp.
use Rattle.std.specs.Prelude.{ℕ, List, map, Option, Some, None, Result, Ok, Err, codes}
use Rattle.wf_fn_time.specs.Reading.{read_time}
use Rattle.wf_places.specs.Pointer.{least}
use Rattle.wf_places.specs.Form.{places}
use Rattle.wf_val.specs.Address.{address_text}
use Rattle.wf_val.specs.Get.{get}
use Rattle.wf_val.specs.ValueTree.{ValueTree, null, Member}
use Rattle.wf_answers.specs.AnswerTree.{AnswerTree}
use Rattle.wf_answers.specs.Gathered.{gathered}
use Rattle.wf_answers.specs.InputsForm.{inputs_form}
use Rattle.wf_answers.specs.Members.{answer_of, items_or_none, members_or_none, text_or_empty, text_or_none, value_or}
use Rattle.wf_answers.specs.declared.fault.InputsFault.{InputsFault}
use Rattle.wf_answers.specs.declared.part.Part.{Part}

pub record InputsTree : Type 0 where
  pub run : List ℕ
  pub seed : List ℕ
  -- in ticks
  pub moment : ℕ
  pub trigger : Option (List ℕ)
  pub outputs : ValueTree
  pub parameters : List Member
  -- in the order of attempts, one for each
  pub answers : List AnswerTree

-- what the members say, with this moment and these answers
abbrev pub inputs_at : ValueTree → ℕ → List AnswerTree → InputsTree
inputs_at t moment answers = record {
  run = text_or_empty (get (codes "run") t);
  seed = text_or_empty (get (codes "seed") t);
  moment = moment;
  trigger = text_or_none (get (codes "trigger") t);
  outputs = value_or null (get (codes "outputs") t);
  parameters = members_or_none (get (codes "parameters") t);
  answers = answers;
}

abbrev pub with_moment : ValueTree → List AnswerTree → Option ℕ → Result InputsTree InputsFault
with_moment t answers None = Err InputsFault.Moment
with_moment t answers (Some moment) = Ok (inputs_at t moment answers)

abbrev pub with_answers : ValueTree → List AnswerTree → Option AnswerTree → Result InputsTree InputsFault
with_answers t kept (Some a) = Err (InputsFault.Twice (address_text a.address) a.attempt)
with_answers t kept None = with_moment t kept (read_time (text_or_empty (get (codes "moment") t)))

abbrev pub of_form : ValueTree → Option (List ℕ) → Result InputsTree InputsFault
of_form t (Some pointer) = Err (InputsFault.Form pointer)
of_form t None =
    let g = gathered (map answer_of (items_or_none (get (codes "answers") t))) in
    with_answers t g.kept g.twice

-- all, in the order of the faults
abbrev pub inputs_of : ValueTree → Result InputsTree InputsFault
inputs_of t = of_form t (least (places inputs_form Part.Whole t))
