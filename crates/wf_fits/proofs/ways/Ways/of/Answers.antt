use Rattle.std.proofs.Common.{List, map, ap, ◌∙◌}
use Rattle.std.specs.List.{find}
use Rattle.wf_def.specs.ActionSeen.{action_tree}
use Rattle.wf_catalog.specs.Points.{has_action_name}
use Rattle.wf_catalog.specs.ReadSeen.{def_tree}
use Rattle.wf_fits.specs.Sorts.{all_initials, sort_by}
use Rattle.wf_fits.specs.declared.walk.Placed.{Placed}
use Rattle.wf_fits.proofs.WayLemmas.{are_ways}
use Rattle.wf_fits.proofs.ways.Ways.of.Goals as goal

pub invariant_of-result : goal.invariant_of-result
invariant_of-result c =
    are_ways (def_tree c.args.def.now) c.in_ok-by_number.by_number c.in_ok-by_name.by_name c.in_ok-sorts.sorts c.in_ok-actions.actions.items
    c.in_ok-actions.ensures c.in_ok-by_number.ensures
    (λ k. c.in_ok-by_name.ensures k
    ∙ ap (λ (ps : List Placed). find (has_action_name k) (map (λ (p : Placed). action_tree p.action.now) ps)) c.deref-2.ensures.value)
    (λ k. c.in_ok-sorts.ensures k
    ∙ ap (λ (ps : List Placed). sort_by (all_initials (map (λ (p : Placed). action_tree p.action.now) ps)) k) c.deref.ensures.value)
