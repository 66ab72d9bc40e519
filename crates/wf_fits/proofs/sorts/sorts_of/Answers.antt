use Rattle.std.proofs.Common.{map, ap, ◌∙◌}
use Rattle.wf_def.specs.ActionSeen.{action_tree}
use Rattle.wf_fits.specs.Sorts.{all_initials}
use Rattle.wf_fits.specs.SortsSeen.{sort_in}
use Rattle.wf_fits.proofs.WayLemmas.{types_found}
use Rattle.wf_fits.proofs.sorts.sorts_of.Goals as goal

pub returns : goal.returns
returns c = λ k.
    ap (λ ts. sort_in ts k) c.in_ok-table.ensures
    ∙ types_found c.in_ok-all_initials.field-0.items (all_initials (map (λ p. action_tree p.action.now) c.args.actions.now))
    c.in_ok-all_initials.ensures k
