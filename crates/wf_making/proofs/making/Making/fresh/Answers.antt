use Rattle.std.proofs.Common.{[], refl, subst, sym}
use Rattle.std.proofs.lemmas.Option.{none-some}
use Rattle.wf_layers.specs.Machine.{fresh}
use Rattle.wf_layers.proofs.Bounded.{events_are_counted}
use Rattle.wf_drive.specs.Driven.{IsFirst}
use Rattle.wf_making.proofs.making.Making.fresh.Goals as goal

pub returns-clause-first : goal.returns-clause-first
returns-clause-first g c =
    let a = g.A.Acts in
    let k = c.args.acts.now in
    subst (λ s. IsFirst (a.graph k) (a.source k) (a.depth k) s) (sym c.in_ok-metered.ensures.first) (record {
      not_begun = record { running = λ x. refl; opens = λ x w found. absurd (none-some w found) };
      none_taken = events_are_counted (a.graph k) (a.source k) (a.depth k) c.requires.instance [] fresh refl;
    })
