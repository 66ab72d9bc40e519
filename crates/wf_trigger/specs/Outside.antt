-- What an expression sees that stands in no loop, where there are no variables.
use Rattle.std.specs.Prelude.{ℕ, pos, List, [], Option, None}
use Rattle.wf_eval.specs.Told.{Told}
use Rattle.wf_val.specs.Get.{value_of}
use Rattle.wf_val.specs.ValueTree.{ValueTree, Member}

-- the parameters and the trigger, what `actions` gives of an action's name, the moment and the run's name, and the seed and the place of
-- which words are made
pub record Outside : Type 0 where
  pub parameters : List Member
  pub trigger : ValueTree
  pub views : List ℕ → Option ValueTree
  pub moment : ℕ
  pub run : List ℕ
  pub seed : List ℕ
  pub place : List ℕ

abbrev pub told_outside : Outside → Told
told_outside o = record {
  parameter = λ name. value_of name o.parameters;
  variable = λ name. None;
  trigger = o.trigger;
  view = o.views;
  result = λ name. None;
  items = [];
  item_of = λ name. None;
  index_of = λ name. None;
  own = None;
  moment = pos o.moment;
  run_name = o.run;
  seed = o.seed;
  place = o.place;
}
