-- What starts, from the split and the conditions.
use Rattle.std.proofs.Common.{◌≡◌, List, Bool, Option, Ok, refl}
use Rattle.wf_answers.specs.Inputs.{InputsTree}
use Rattle.wf_def.specs.DefTree.{TriggerTree}
use Rattle.wf_template.specs.TemplateTree.{TemplateTree}
use Rattle.wf_trigger.specs.Choosing.{name_value}
use Rattle.wf_trigger.specs.Runs.{started}
use Rattle.wf_trigger.specs.Splitting.{all_hold, conditions_in, split_in, split_items}
use Rattle.wf_trigger.specs.Starts.{Shared, starts_of}
use Rattle.wf_val.specs.Arguments.{Answer}
use Rattle.wf_val.specs.ValueTree.{ValueTree, Member}

abbrev pub shared_by : Option TriggerTree → InputsTree → List Member → Shared
shared_by trigger i values = record { run = i.run; seed = i.seed; name = name_value trigger; outputs = i.outputs; parameters = values }

pub started_by : (value : TemplateTree → Answer) (trigger : Option TriggerTree) (i : InputsTree) (values : List Member)
    (split : Option (List ValueTree)) (holds : Bool)
    → split_items value (split_in trigger) ≡ Ok split → all_hold value (conditions_in trigger) ≡ Ok holds
    → started value trigger i values ≡ Ok (starts_of (shared_by trigger i values) split holds)
started_by value trigger i values split holds is_split do_hold = rw (is_split, do_hold) refl
