-- Which answer a value means by itself, outside of inputs, or where it isn't of the form of one. The pointer begins at the value.
use Rattle.std.specs.Prelude.{ℕ, List, Option, Some, None, Result, Ok, Err}
use Rattle.wf_places.specs.Pointer.{least}
use Rattle.wf_places.specs.Form.{places}
use Rattle.wf_val.specs.ValueTree.{ValueTree}
use Rattle.wf_answers.specs.AnswerTree.{AnswerTree}
use Rattle.wf_answers.specs.InputsForm.{inputs_form}
use Rattle.wf_answers.specs.Members.{answer_of}
use Rattle.wf_answers.specs.declared.fault.AnswerFault.{AnswerFault}
use Rattle.wf_answers.specs.declared.part.Part.{Part}

abbrev pub answer_of_form : ValueTree → Option (List ℕ) → Result AnswerTree AnswerFault
answer_of_form t (Some pointer) = Err (AnswerFault.Form pointer)
answer_of_form t None = Ok (answer_of t)

abbrev pub one_answer : ValueTree → Result AnswerTree AnswerFault
one_answer t = answer_of_form t (least (places inputs_form Part.Answer t))
