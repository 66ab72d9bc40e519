use Rattle.std.proofs.Common.{arith, refl}
use Rattle.wf_answers.specs.InputsSeen.{inputs_tree}
use Rattle.wf_reading.specs.ReadSeen.{def_tree}
use Rattle.wf_trigger.specs.StartsSeen.{start_tree}
use Rattle.wf_session.proofs.conversing.made_ready.Goals as goal

pub returns-in-Err : goal.returns-in-Err
returns-in-Err g c =
    let e = c.refuse.ensures in
    record {
      talks =
          e.talks (def_tree c.args.ready.now.checked.now.def, start_tree c.args.given.start) (inputs_tree c.args.given.inputs) (g.I.Source.left c.args.input.now)
          (λ other. absurd (other refl));
      only = e.only;
      always = e.always;
      three = λ is. absurd (e.others is);
      source = λ lt. absurd (omega (arith, lt));
    }
