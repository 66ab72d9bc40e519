-- What the expressions of a trigger see (Workflow Definition Language, "Trigger conditions" and "Split on").
use Rattle.std.specs.Prelude.{ℕ, List, None}
use Rattle.wf_eval.specs.TemplateValue.{template_value}
use Rattle.wf_eval.specs.Told.{Told}
use Rattle.wf_template.specs.TemplateTree.{TemplateTree}
use Rattle.wf_trigger.specs.Outside.{told_outside}
use Rattle.wf_val.specs.Arguments.{Answer}
use Rattle.wf_val.specs.ValueTree.{ValueTree, Member}

-- the trigger's value, the parameters, the moment and the inputs' run name, and nothing of actions, loops and variables. No expression of a
-- trigger draws words; where one did, they would be those of the seed and the run name.
abbrev pub trigger_told : ValueTree → List Member → ℕ → List ℕ → List ℕ → Told
trigger_told trigger values moment run seed = told_outside (record {
  parameters = values;
  trigger = trigger;
  views = λ name. None;
  moment = moment;
  run = run;
  seed = seed;
  place = run;
})

-- what a template of a trigger comes to
abbrev pub value_told : ValueTree → List Member → ℕ → List ℕ → List ℕ → TemplateTree → Answer
value_told trigger values moment run seed template = (template_value (trigger_told trigger values moment run seed) template 0).0
