use Rattle.std.proofs.Common.{◌≡◌, IfOk, ap, subst, sym, ◌∙◌}
use Rattle.wf_asks.specs.Instances.{address_of}
use Rattle.wf_def.specs.AllActions.{numbered}
use Rattle.wf_def.specs.DefTree.{DefTree}
use Rattle.wf_catalog.specs.DoneSeen.{begun_tree}
use Rattle.wf_catalog.specs.Leaf.{BegunTree}
use Rattle.wf_catalog.specs.Environment.{Environment, first_facts}
use Rattle.wf_sight_laws.specs.Laws.{run_of}
use Rattle.wf_sight_laws.specs.SightSeen.{known_tree}
use Rattle.wf_sight_laws.specs.Sight.{KnownTree, seen_at}
use Rattle.wf_paying.specs.Acting.{begun_by}
use Rattle.wf_paying.specs.Seen as setting
use Rattle.wf_sight_laws.specs.Done as laws
use Rattle.wf_actions.specs.Meant.{definition_of, environment_of, source}
use Rattle.wf_actions.proofs.DoneLemmas.{starts_by}
use Rattle.wf_actions.proofs.acting.start.Goals as goal

pub returns : goal.returns
returns c =
    let actions = c.args.actions.now in
    let d : DefTree = definition_of actions in
    let e : Environment = environment_of actions in
    let place = c.args.place.now in
    let x = address_of place in
    let known : KnownTree = known_tree c.args.known.rows.now.0 c.args.known.opens.now.0 c.args.known.store.now.0 in
    let f = setting.environment_of c.setting.result in
    subst (λ (r : BegunTree). IfOk c.start.result (λ b. begun_tree b ≡ r))
    (ap (λ (q : DefTree). begun_by (numbered place.action q.top) (seen_at q (run_of f (first_facts f)) x known)) c.setting.ensures.definition
    ∙ ap (λ (g : Environment). begun_by (numbered place.action d.top) (seen_at d (run_of g (first_facts g)) x known))
    c.setting.ensures.environment
    ∙ starts_by d e x known.rows (laws.seen d e x known) (numbered place.action d.top)
    (λ a found.
    c.what_is_done_in_a_sight_is_meant.ensures.starts d c.always_read.ensures c.always_checked.ensures.holds e (source actions)
    c.are_answered.ensures x known a found c.requires.informed c.requires.last)
    ∙ sym (ap (λ f. f x known.rows) c.are_answered.ensures.answers.start))
    c.start.ensures
