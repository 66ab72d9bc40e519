use Rattle.std.proofs.Common.{◌≡◌, IfOk, ap, subst, sym, ◌∙◌}
use Rattle.wf_answers.specs.InputsSeen.{inputs_tree}
use Rattle.wf_asks.specs.Instances.{address_of}
use Rattle.wf_def.specs.AllActions.{numbered}
use Rattle.wf_def.specs.DefTree.{DefTree}
use Rattle.wf_catalog.specs.DoneSeen.{begun_tree}
use Rattle.wf_layers.specs.Definition.{Leaf}
use Rattle.wf_catalog.specs.Environment.{Environment, first_facts}
use Rattle.wf_catalog.specs.Look.{told_at}
use Rattle.wf_record.specs.Record.{Row}
use Rattle.wf_sight_laws.specs.Laws.{run_of}
use Rattle.wf_sight_laws.specs.Seen.{row_content}
use Rattle.wf_sight_laws.specs.SightSeen.{known_tree}
use Rattle.wf_sight_laws.specs.Sight.{KnownTree, seen_at}
use Rattle.wf_catalog.specs.StartsSeen.{start_tree}
use Rattle.wf_paying.specs.Acting.{finished_by}
use Rattle.wf_paying.specs.Seen as setting
use Rattle.wf_sight_laws.specs.Done as laws
use Rattle.wf_actions.specs.Meant.{definition_of, environment_of, source}
use Rattle.wf_actions.proofs.DoneLemmas.{finishes_as}
use Rattle.wf_actions.proofs.acting.finish.Goals as goal

pub returns : goal.returns
returns c =
    let actions = c.args.actions.now in
    let d : DefTree = definition_of actions in
    let e : Environment = environment_of actions in
    let place = c.args.place.now in
    let x = address_of place in
    let b = begun_tree c.args.begun.now in
    let known : KnownTree = known_tree c.args.known.rows.now.0 c.args.known.opens.now.0 c.args.known.store.now.0 in
    let f = setting.environment_of c.setting.result in
    subst (λ (r : Row). IfOk c.finish.result (λ q. row_content q ≡ r))
    (ap (λ (q : DefTree). finished_by (numbered place.action q.top) (seen_at q (run_of f (first_facts f)) x known) f.inputs.answers place.at b)
    c.setting.ensures.definition
    ∙ ap (λ (g : Environment). finished_by (numbered place.action d.top) (seen_at d (run_of g (first_facts g)) x known) g.inputs.answers place.at
    b)
    c.setting.ensures.environment
    ∙ finishes_as (laws.seen d e x known) (told_at d e x known.rows) (numbered place.action d.top) e.inputs.answers place.at b
    (λ a view found.
    c.what_is_done_in_a_sight_is_meant.ensures.tracks d c.always_read.ensures c.always_checked.ensures.holds e (source actions)
    c.are_answered.ensures.answers x Leaf known a view found c.requires.informed)
    ∙ c.what_is_done_is_the_source.ensures.finish d (start_tree actions.start.now) (inputs_tree actions.inputs.now) x b known.rows
    ∙ sym (ap (λ f. f x b known.rows) c.are_answered.ensures.answers.finish))
    c.finish.ensures
