use Rattle.std.proofs.Common.{option_map, ap, ◌∙◌}
use Rattle.wf_events.specs.Instances.{address_of, rows_in}
use Rattle.wf_events.specs.PlanSeen.{at_place, plan_tree}
use Rattle.wf_events.specs.Closed.{iterations_by}
use Rattle.wf_steps.proofs.CloseLemmas.{seen_test}
use Rattle.wf_steps.proofs.close.closing.Goals as goal

pub returns-clause-row : goal.returns-clause-row
returns-clause-row g c =
    let a = g.A.Acts in
    let m = a.source c.args.acts.now in
    c.in_ok-row.ensures
    ∙ ap (λ k. m.close (address_of c.args.place.now) (a.decision_tree c.args.open.now.decision) k
    (option_map (λ v. a.verdict_tree v.now) c.last_test-test.result) (rows_in a.row_tree c.args.known.rows.now.0))
    c.iterations-count.ensures.count
    ∙ ap (λ t. m.close (address_of c.args.place.now) (a.decision_tree c.args.open.now.decision)
    (iterations_by (at_place (plan_tree c.args.plan.now).entries c.args.place.now.action) c.args.open.now.next) t
    (rows_in a.row_tree c.args.known.rows.now.0))
    (seen_test (λ v. v.now) a.verdict_tree c.last_test-test.result ∙ ap (option_map a.verdict_tree) c.last_test-test.ensures)
