-- Inputs with one answer more.
use Rattle.wf_lists.specs.KeyOrder.{put_key}
use Rattle.wf_answers.specs.AnswerTree.{AnswerTree, key_cmp, key_of}
use Rattle.wf_answers.specs.Inputs.{InputsTree}

-- the answer stands in its place, and all else is as it was
abbrev pub with_added : InputsTree → AnswerTree → InputsTree
with_added i a = record {
  run = i.run;
  seed = i.seed;
  moment = i.moment;
  trigger = i.trigger;
  outputs = i.outputs;
  parameters = i.parameters;
  answers = put_key key_cmp key_of a i.answers;
}
