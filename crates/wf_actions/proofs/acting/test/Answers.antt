use Rattle.std.proofs.Common.{◌≡◌, IfOk, Some, ap, subst, sym, ◌∙◌}
use Rattle.wf_asks.specs.Instances.{address_of}
use Rattle.wf_def.specs.AllActions.{numbered}
use Rattle.wf_def.specs.DefTree.{DefTree}
use Rattle.wf_opening.specs.DecisionSeen.{verdict_tree}
use Rattle.wf_opening.specs.Verdicts.{VerdictTree}
use Rattle.wf_catalog.specs.Environment.{Environment, first_facts}
use Rattle.wf_sight_laws.specs.Laws.{run_of}
use Rattle.wf_sight_laws.specs.SightSeen.{known_tree}
use Rattle.wf_sight_laws.specs.Sight.{KnownTree, seen_in_test}
use Rattle.wf_def.specs.Layered.{layered_kind}
use Rattle.wf_catalog.specs.Look.{told_in_test}
use Rattle.wf_paying.specs.Acting.{tested_by}
use Rattle.wf_def.specs.Layered.{layered}
use Rattle.wf_sight_laws.proofs.KindLemmas.{kinds}
use Rattle.wf_catalog.specs.Source.{test_of}
use Rattle.wf_paying.specs.Seen as setting
use Rattle.wf_sight_laws.specs.Done as laws
use Rattle.wf_actions.specs.Meant.{definition_of, environment_of, source}
use Rattle.wf_actions.proofs.DoneLemmas.{tests_as}
use Rattle.wf_actions.proofs.acting.test.Goals as goal

pub returns : goal.returns
returns c =
    let actions = c.args.actions.now in
    let d : DefTree = definition_of actions in
    let e : Environment = environment_of actions in
    let place = c.args.place.now in
    let x = address_of place in
    let known : KnownTree = known_tree c.args.known.rows.now.0 c.args.known.opens.now.0 c.args.known.store.now.0 in
    let f = setting.environment_of c.setting.result in
    subst (λ (r : VerdictTree). IfOk c.test_until.result (λ b. verdict_tree b ≡ r))
    (ap (λ (q : DefTree). tested_by (numbered place.action q.top) (seen_in_test q (run_of f (first_facts f)) x c.args.index known)) c.setting.ensures.definition
    ∙ ap (λ (g : Environment). tested_by (numbered place.action d.top) (seen_in_test d (run_of g (first_facts g)) x c.args.index known))
    c.setting.ensures.environment
    ∙ tests_as (laws.seen_tested d e x c.args.index known) (told_in_test d e x c.args.index known.rows) (numbered place.action d.top)
    (λ a found test count fails graph is.
    let asked = c.requires.informed count (layered graph)
    (kinds d (c.numbers_stand_once.ensures d c.always_read.ensures) place.action a found ∙ ap (λ k. Some (layered_kind k)) is) in
    c.what_is_done_in_a_sight_is_meant.ensures.tests d c.always_read.ensures c.always_checked.ensures.holds e (source actions)
    c.are_answered.ensures x count (layered graph) c.args.index known a found asked.0 asked.1
    ∙ ap (λ o. test_of d e o x c.args.index known.rows) found)
    ∙ c.what_is_done_is_the_source.ensures.test d e x c.args.index known.rows
    ∙ sym (ap (λ f. f x c.args.index known.rows) c.are_answered.ensures.answers.test))
    c.test_until.ensures
