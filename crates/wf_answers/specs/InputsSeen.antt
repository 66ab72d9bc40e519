-- Inputs as contracts see them.
use Rattle.std.specs.Prelude.{map}
use Rattle.wf_val.specs.Seen.{tree}
use Rattle.wf_answers.specs.AnswerSeen.{answer_tree}
use Rattle.wf_answers.specs.Inputs.{InputsTree}
use Rattle.wf_answers.specs.declared.inputs.Inputs.{Inputs}

abbrev pub inputs_tree : Inputs → InputsTree
inputs_tree i = record {
  run = i.run;
  seed = i.seed;
  moment = i.moment;
  trigger = i.trigger;
  outputs = tree i.outputs;
  parameters = i.parameters;
  answers = map answer_tree i.answers;
}
