use Rattle.std.proofs.Common.{Some, cond, ap, ◌∙◌}
use Rattle.wf_events.specs.Instances.{address_of}
use Rattle.wf_events.specs.Written.{put_each}
use Rattle.wf_events.proofs.WrittenLemmas.{written_all}
use Rattle.wf_steps.proofs.end.ending.Goals as goal

pub returns-clause-writers : goal.returns-clause-writers
returns-clause-writers g c t v =
    ap (λ ws. put_each ws t v) c.in_ok-writers.ensures
    ∙ written_all c.args.place.now c.written.result.now t v
    ∙ ap (λ b. cond b (Some (address_of c.args.place.now)) (t v)) (c.written.ensures v)
