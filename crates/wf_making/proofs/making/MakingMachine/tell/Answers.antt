use Rattle.std.proofs.Common.{◌∙◌, ap, sym}
use Rattle.wf_layers.specs.Meaning.{meaning}
use Rattle.wf_scheduled.specs.Counts.{number_of}
use Rattle.wf_scheduled.proofs.HappenedLemmas.{happened}
use Rattle.wf_metered.specs.Tables.{event_tree}
use Rattle.wf_metered.specs.Shown.{shown}
use Rattle.wf_metered.proofs.MeteredLemmas.{place_is}
use Rattle.wf_making.proofs.StandingLemmas.{happened_there}
use Rattle.wf_making.proofs.making.MakingMachine.tell.Goals as goal

pub returns : goal.returns
returns g c = λ first before es new run reached st.
    let a = g.A.Acts in
    let k = c.args.self.now in
    let s = shown a.row_tree a.begun_tree a.decision_tree a.verdict_tree k.1 in
    let event = c.args.event.now in
    let e = event_tree event in
    let f = meaning (a.source k.0) (a.depth k.0) (a.graph k.0) in
    let has = happened (a.graph k.0) (a.depth k.0) (a.source k.0) first before s es reached new run e st in
    let said = rw (c.acts.ensures, c.state-kept.ensures) at c.in_ok-line.ensures in
    said (number_of es e) (happened_there (a.source k.0) f s _ _ _ e
    (rw c.state-kept.ensures at c.row.ensures ∙ ap (λ x. s.rows x) (sym (place_is event)))
    (rw c.state-kept.ensures at c.leaf.ensures ∙ ap (λ x. s.running x) (sym (place_is event)))
    (rw c.state-kept.ensures at c.open_at.ensures ∙ ap (λ x. s.opens x) (sym (place_is event))) (number_of es e) has)
