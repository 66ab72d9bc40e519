-- WHICH ATTEMPTS OF A RUN HAVE AN ANSWER.
use Rattle.wf_layers.specs.Machine.{has_ended}
use Rattle.wf_def.specs.DefTree.{DefTree}
use Rattle.wf_answers.specs.AnswerTree.{find_answer}
use Rattle.wf_answers.specs.Inputs.{InputsTree}
use Rattle.wf_meant.specs.Look.{instance}
use Rattle.wf_quiet.specs.Quiet.{Answers}

-- The inputs have an answer for the attempt of a number at an instance.
abbrev pub answered : DefTree → InputsTree → Answers
answered d inputs x attempt = has_ended (find_answer (instance d x, attempt) inputs.answers)
