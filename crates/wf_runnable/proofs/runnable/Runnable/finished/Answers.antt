use Rattle.std.proofs.Common.{sym, subst, ◌∙◌}
use Rattle.wf_actions.specs.Weights.{begun_weight, decision_weight}
use Rattle.wf_done.specs.DoneSeen.{begun_tree}
use Rattle.wf_environment.specs.Environment.{Environment}
use Rattle.wf_layers.specs.Machine.{IsOver}
use Rattle.wf_actions.specs.Answering.{RowSource}
use Rattle.wf_actions.specs.Points.{graph_of}
use Rattle.wf_actions.specs.Source as sources
use Rattle.wf_actions.specs.Sums.{AreSumsOf}
use Rattle.wf_opening.specs.DecisionSeen.{decision_tree, verdict_tree}
use Rattle.wf_actions.specs.Paying.{cost_of_row}
use Rattle.wf_actions.specs.Seen.{row_content}
use Rattle.wf_actions.specs.Acting.{ActFor}
use Rattle.wf_actions.specs.Meant.{source}
use Rattle.wf_runnable.specs.Over.{AreLeft, IsAtLast, moment}
use Rattle.wf_runnable.specs.Runnable.{begun_with, definition}
use Rattle.wf_runnable.proofs.EndedLemmas.{ended_so, record_is}
use Rattle.wf_runnable.proofs.runnable.Runnable.finished.Goals as goal

pub again-requires-clause-sums : goal.again-requires-clause-sums
again-requires-clause-sums c =
    let d = definition c.args.self.now.checked.now in
    let e : Environment = begun_with c.args.start c.args.inputs.now in
    let a = c.of-actions.result in
    let r = c.args.rest in
    let act : ActFor a d e (sources.source d e) =
    subst (λ k. ActFor a (definition k) e (sources.source (definition k) e)) c.args.self.now.readied c.of-actions.ensures.acts in
    subst (λ q. AreSumsOf row_content begun_tree decision_tree verdict_tree (graph_of q) cost_of_row begun_weight (source a).items
    decision_weight r.0.0.0 r.0.0.1.0 r.0.0.1.1.0 r.1) (sym act.definition)
    (subst (λ (m : RowSource). AreSumsOf row_content begun_tree decision_tree verdict_tree (graph_of d) cost_of_row begun_weight m.items
    decision_weight r.0.0.0 r.0.0.1.0 r.0.0.1.1.0 r.1) (sym act.by_source) c.requires.aside.sums)

pub given_up-rows-requires : goal.given_up-rows-requires
given_up-rows-requires c =
    let d = definition c.args.self.now.checked.now in
    let e : Environment = begun_with c.args.start c.args.inputs.now in
    let a = c.of-actions.result in
    let act : ActFor a d e (sources.source d e) =
    subst (λ k. ActFor a (definition k) e (sources.source (definition k) e)) c.args.self.now.readied c.of-actions.ensures.acts in
    let over : IsAtLast a c.args.rest.0.0 =
    subst (λ q. IsOver (graph_of q) (source a) (moment c.args.rest.0.0)) (sym act.definition)
    (subst (λ (m : RowSource). IsOver (graph_of d) m (moment c.args.rest.0.0)) (sym act.by_source) c.requires.over) in
    subst (λ k. IsAtLast k c.again.result.1) (sym c.again.ensures.acts) (subst (λ h. IsAtLast a h) (sym c.again.ensures.lists) over)

pub record-requires : goal.record-requires
record-requires c =
    let d = definition c.args.self.now.checked.now in
    let e : Environment = begun_with c.args.start c.args.inputs.now in
    let a = c.of-actions.result in
    let act : ActFor a d e (sources.source d e) =
    subst (λ k. ActFor a (definition k) e (sources.source (definition k) e)) c.args.self.now.readied c.of-actions.ensures.acts in
    let rows = c.given_up-rows.result.0.0 in
    let store = c.given_up-rows.result.1.0 in
    ended_so d e (sources.source d e) a act rows store (subst (λ k. AreLeft k rows store) c.again.ensures.acts c.given_up-rows.ensures)

pub returns : goal.returns
returns c =
    let d = definition c.args.self.now.checked.now in
    let e : Environment = begun_with c.args.start c.args.inputs.now in
    let a = c.of-actions.result in
    let act : ActFor a d e (sources.source d e) =
    subst (λ k. ActFor a (definition k) e (sources.source (definition k) e)) c.args.self.now.readied c.of-actions.ensures.acts in
    let rows = c.given_up-rows.result.0.0 in
    let store = c.given_up-rows.result.1.0 in
    c.in_ok-record.ensures.record
    ∙ (record_is d e (sources.source d e) a act rows store (subst (λ k. AreLeft k rows store) c.again.ensures.acts c.given_up-rows.ensures)
    ∙ sym (c.a_record_is_of_the_table.ensures.record d e))
