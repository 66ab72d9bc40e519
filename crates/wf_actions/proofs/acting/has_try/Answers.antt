use Rattle.std.proofs.Common.{ap, nat_lt, sym, ◌∙◌}
use Rattle.wf_answers.specs.InputsSeen.{inputs_tree}
use Rattle.wf_asks.specs.Instances.{address_of}
use Rattle.wf_def.specs.AllActions.{numbered}
use Rattle.wf_def.specs.DefTree.{DefTree}
use Rattle.wf_catalog.specs.DoneSeen.{begun_tree}
use Rattle.wf_catalog.specs.Environment.{Environment}
use Rattle.wf_catalog.specs.StartsSeen.{start_tree}
use Rattle.wf_paying.specs.Acting.{attempts_by}
use Rattle.wf_paying.specs.Seen as setting
use Rattle.wf_actions.specs.Meant.{definition_of}
use Rattle.wf_actions.proofs.acting.has_try.Goals as goal

pub returns : goal.returns
returns c =
    let actions = c.args.actions.now in
    let d : DefTree = definition_of actions in
    let place = c.args.place.now in
    let b = begun_tree c.args.begun.now in
    c.makes_another.ensures
    ∙ ap (nat_lt c.args.made)
    (ap (λ (q : DefTree). attempts_by (numbered place.action q.top) (setting.environment_of c.setting.result).inputs.answers place.at b)
    c.setting.ensures.definition
    ∙ ap (λ (e : Environment). attempts_by (numbered place.action d.top) e.inputs.answers place.at b) c.setting.ensures.environment
    ∙ c.what_is_done_is_the_source.ensures.tries d (start_tree actions.start.now) (inputs_tree actions.inputs.now) (address_of place) b
    ∙ sym (ap (λ f. f (address_of place) b) c.are_answered.ensures.answers.tries))
