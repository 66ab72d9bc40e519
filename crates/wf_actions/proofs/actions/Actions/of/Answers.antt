use Rattle.std.proofs.Common.{refl}
use Rattle.wf_catalog.specs.Environment.{Environment}
use Rattle.wf_actions.specs.Acting.{begun_with, ready_definition}
use Rattle.wf_actions.proofs.actions.Actions.of.Goals as goal

pub invariant_of-result : goal.invariant_of-result
invariant_of-result c =
    let d = ready_definition c.args.ready.now in
    let e : Environment = begun_with c.args.start.now c.args.inputs.now in
    record {
      answered = ∣ c.a_definition_is_answered.ensures d c.always_read.ensures c.always_checked.ensures.holds e ∣₁;
      weighed = c.first_cost.ensures;
    }

pub returns : goal.returns
returns c =
    let d = ready_definition c.args.ready.now in
    let e : Environment = begun_with c.args.start.now c.args.inputs.now in
    record {
      acts = record {
        definition = refl;
        environment = refl;
        by_source = refl;
        answered = c.a_definition_is_answered.ensures d c.always_read.ensures c.always_checked.ensures.holds e;
      };
      instance = c.a_definition_is_an_instance.ensures d c.always_read.ensures c.always_checked.ensures.holds e;
    }
