use Rattle.std.proofs.Common.{◌≡◌, ◌∙◌, Option, Ok, ap, ap₂, sym, subst, option_map}
use Rattle.wf_answers.specs.Inputs.{InputsTree}
use Rattle.wf_answers.specs.InputsSeen.{inputs_tree}
use Rattle.wf_def.specs.DefSeen.{trigger_tree}
use Rattle.wf_def.specs.DefTree.{TriggerTree}
use Rattle.wf_trigger.specs.Choosing.{name_value}
use Rattle.wf_trigger.specs.Runs.{value_in}
use Rattle.wf_trigger.specs.Shared.{kept_outputs}
use Rattle.wf_trigger.specs.Splitting.{all_hold, conditions_in, split_in, split_items}
use Rattle.wf_trigger.specs.Starts.{trigger_value}
use Rattle.wf_trigger.specs.TriggerLook.{value_told}
use Rattle.wf_val.specs.Seen.{tree}
use Rattle.wf_val.specs.ValueTree.{ValueTree}
use Rattle.wf_trigger.proofs.RunLemmas.{shared_by, started_by}
use Rattle.wf_trigger.proofs.StartLemmas.{kept-starts}
use Rattle.wf_trigger.proofs.starting.started.Goals as goal

pub returns-clause-starts : goal.returns-clause-starts
returns-clause-starts c =
    let trigger : Option TriggerTree = option_map (λ t. trigger_tree t.now) c.args.trigger in
    let i : InputsTree = inputs_tree c.args.inputs.now in
    let values = c.args.values in
    let named : tree c.in_ok-name.name ≡ name_value trigger = c.in_ok-name.ensures in
    let seen : tree c.in_ok-seen.seen ≡ trigger_value (name_value trigger) i.outputs =
    c.in_ok-seen.ensures ∙ ap₂ trigger_value (ap tree c.in_ok-copy.ensures ∙ named) (ap tree c.in_ok-copy-2.ensures) in
    let split = subst (λ (o : ValueTree). split_items (value_told o values i.moment i.run i.seed) (split_in trigger)
    ≡ Ok c.in_ok-items.items) seen
    (subst (λ t. split_items (value_told (tree c.in_ok-seen.seen) values i.moment i.run i.seed) t ≡ Ok c.in_ok-items.items)
    c.split_in.ensures c.in_ok-items.ensures.items) in
    let holds = subst (λ (o : ValueTree). all_hold (value_told o values i.moment i.run i.seed) (conditions_in trigger)
    ≡ Ok c.in_ok-holds.holds) seen
    (subst (λ ts. all_hold (value_told (tree c.in_ok-seen.seen) values i.moment i.run i.seed) ts ≡ Ok c.in_ok-holds.holds)
    c.conditions_in.ensures c.in_ok-holds.ensures.holds) in
    let kept = c.in_ok-outputs.ensures ∙ ap (λ b. kept_outputs b i.outputs) c.is_some.ensures in
    started_by (value_in trigger i values) trigger i values c.in_ok-items.items c.in_ok-holds.holds split holds
    ∙ ap Ok (sym (kept-starts (shared_by trigger i values) c.in_ok-copy-3.field-0 c.in_ok-copy-4.field-0 (tree c.in_ok-name.name)
    (tree c.in_ok-outputs.outputs) c.in_ok-items.items c.in_ok-holds.holds c.always_well_formed.ensures c.in_ok-copy-3.ensures
    c.in_ok-copy-4.ensures named kept))
