use Rattle.std.proofs.Common.{map, ap, ◌∙◌}
use Rattle.wf_def.specs.ActionSeen.{action_tree}
use Rattle.wf_fits.specs.NamedSeen.{named_in}
use Rattle.wf_fits.proofs.WayLemmas.{named_found}
use Rattle.wf_fits.proofs.named.by_name.Goals as goal

pub returns : goal.returns
returns c = λ k.
    ap (λ ns. named_in ns k) c.in_ok-table.ensures
    ∙ named_found c.in_ok-all_named.field-0.items (map (λ p. action_tree p.action.now) c.args.actions.now) c.in_ok-all_named.ensures k
