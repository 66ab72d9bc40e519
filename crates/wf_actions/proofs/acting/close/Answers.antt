use Rattle.std.proofs.Common.{◌≡◌, IfOk, Option, option_map, ap, subst, sym, ◌∙◌}
use Rattle.wf_asks.specs.Instances.{address_of}
use Rattle.wf_def.specs.AllActions.{numbered}
use Rattle.wf_def.specs.DefTree.{DefTree}
use Rattle.wf_def.specs.ActionTree.{action_kind}
use Rattle.wf_def.specs.Layered.{layered_kind}
use Rattle.wf_sight_laws.proofs.KindLemmas.{kinds}
use Rattle.wf_opening.specs.DecisionSeen.{decision_tree, verdict_tree}
use Rattle.wf_opening.specs.Verdicts.{VerdictTree}
use Rattle.wf_catalog.specs.Environment.{Environment, first_facts}
use Rattle.wf_catalog.specs.Look.{told_at}
use Rattle.wf_record.specs.Record.{Row}
use Rattle.wf_sight_laws.specs.Laws.{run_of}
use Rattle.wf_sight_laws.specs.Seen.{row_content}
use Rattle.wf_sight_laws.specs.SightSeen.{known_tree}
use Rattle.wf_sight_laws.specs.Sight.{KnownTree, seen_at}
use Rattle.wf_paying.specs.Acting.{closed_by}
use Rattle.wf_paying.specs.Seen as setting
use Rattle.wf_sight_laws.specs.Done as laws
use Rattle.wf_actions.specs.Meant.{definition_of, environment_of, source}
use Rattle.wf_actions.proofs.DoneLemmas.{closes_as}
use Rattle.wf_actions.proofs.acting.close.Goals as goal

pub returns : goal.returns
returns c =
    let actions = c.args.actions.now in
    let d : DefTree = definition_of actions in
    let e : Environment = environment_of actions in
    let place = c.args.place.now in
    let x = address_of place in
    let decision = decision_tree c.args.decision.now in
    let n = c.args.count in
    let verdict : Option VerdictTree = option_map (λ v. verdict_tree v.now) c.args.test in
    let known : KnownTree = known_tree c.args.known.rows.now.0 c.args.known.opens.now.0 c.args.known.store.now.0 in
    let f = setting.environment_of c.setting.result in
    subst (λ (r : Row). IfOk c.close.result (λ q. row_content q ≡ r))
    (ap (λ (q : DefTree). closed_by (numbered place.action q.top) (seen_at q (run_of f (first_facts f)) x known) place.at decision n verdict
    known.rows)
    c.setting.ensures.definition
    ∙ ap (λ (g : Environment). closed_by (numbered place.action d.top) (seen_at d (run_of g (first_facts g)) x known) place.at decision n verdict
    known.rows)
    c.setting.ensures.environment
    ∙ closes_as (laws.seen d e x known) (told_at d e x known.rows) (numbered place.action d.top) place.at decision n verdict known.rows
    (λ a view found.
    let kind = layered_kind (action_kind a) in
    let asked = c.requires.informed kind (kinds d (c.numbers_stand_once.ensures d c.always_read.ensures) place.action a found) in
    c.what_is_done_in_a_sight_is_meant.ensures.tracks d c.always_read.ensures c.always_checked.ensures.holds e (source actions)
    c.are_answered.ensures.answers x kind known a view found asked.1)
    ∙ c.what_is_done_is_the_source.ensures.close d e x decision n verdict known.rows
    ∙ sym (ap (λ f. f x decision n verdict known.rows) c.are_answered.ensures.answers.close))
    c.close.ensures
