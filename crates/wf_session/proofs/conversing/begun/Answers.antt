use Rattle.std.proofs.Common.{ap, arith, subst}
use Rattle.wf_answers.specs.Inputs.{InputsTree}
use Rattle.wf_answers.specs.InputsSeen.{inputs_tree}
use Rattle.wf_def.specs.DefTree.{DefTree}
use Rattle.wf_reading.specs.ReadSeen.{def_tree}
use Rattle.wf_stands.specs.Stands.{Stands}
use Rattle.wf_talk.specs.Talks.{Talks}
use Rattle.wf_trigger.specs.Starts.{StartTree}
use Rattle.wf_trigger.specs.StartsSeen.{start_tree}
use Rattle.wf_session.proofs.conversing.begun.Goals as goal

pub returns-in-Ok : goal.returns-in-Ok
returns-in-Ok g c =
    let s = c.in-Ok.session in
    let left = g.I.Source.left in
    let taken = g.O.Sink.taken in
    let d = def_tree c.args.runnable.now.checked.now.def in
    let e = c.in-Ok.ensures in
    record {
      talks =
          subst
          (λ (i : InputsTree). Talks (Stands d (start_tree c.args.given.start)) i (left c.args.input.now) (left c.hold.new.input)
          (taken c.args.out.now) (taken c.hold.new.out) c.hold.result)
          (ap inputs_tree e.inputs)
          (subst
          (λ (t : StartTree). Talks (Stands d t) (inputs_tree s.1.1.0) (left c.args.input.now) (left c.hold.new.input)
          (taken c.args.out.now) (taken c.hold.new.out) c.hold.result)
          (ap start_tree e.start)
          (subst
          (λ (k : DefTree). Talks (Stands k (start_tree s.1.0)) (inputs_tree s.1.1.0) (left c.args.input.now) (left c.hold.new.input)
          (taken c.args.out.now) (taken c.hold.new.out) c.hold.result)
          (ap (λ k. def_tree k.def) e.definition) c.hold.ensures.talks));
      only = c.hold.ensures.only;
      always = c.hold.ensures.always;
      three = c.hold.ensures.three;
      source = c.hold.ensures.source;
    }

pub returns-in-Err : goal.returns-in-Err
returns-in-Err g c =
    let e = c.refuse.ensures in
    record {
      talks =
          e.talks (def_tree c.args.runnable.now.checked.now.def, start_tree c.args.given.start) (inputs_tree c.args.given.inputs)
          (g.I.Source.left c.args.input.now) c.in-Err.ensures.dear;
      only = e.only;
      always = e.always;
      three = λ is. absurd (e.others is);
      source = λ lt. absurd (omega (arith, lt));
    }
