use Rattle.std.proofs.Common.{List, map, option_map, ap, ◌∙◌}
use Rattle.std.specs.List.{find}
use Rattle.wf_def.specs.ActionSeen.{action_tree}
use Rattle.wf_meant.specs.Points.{has_action_name}
use Rattle.wf_known_laws.specs.ReadSeen.{def_tree}
use Rattle.wf_catalog.specs.PlacesSeen.{entry_of, number_in}
use Rattle.wf_catalog.specs.Variables.{first_place, written_names}
use Rattle.wf_catalog.specs.Walk.{Walked, is_at}
use Rattle.wf_catalog.specs.WalkSeen.{walked}
use Rattle.wf_catalog.specs.declared.walk.Placed.{Placed}
use Rattle.wf_catalog.proofs.PlaceLemmas.{actions_walked, are_places, loops_by}
use Rattle.wf_catalog.proofs.WalkLemmas.{loops_found, loops_or_none, walk_loops}
use Rattle.wf_catalog.proofs.places.Places.of.Goals as goal

pub invariant_of-result : goal.invariant_of-result
invariant_of-result c =
    let d = def_tree c.args.def.now in
    let xs : List Placed = c.in_ok-actions.actions.items in
    let ws : List Walked = map walked xs in
    let numbers = c.in_ok-variables.variables in
    are_places d c.in_ok-by_number.by_number c.in_ok-by_name.by_name numbers ws c.in_ok-actions.ensures
    (λ n. c.in_ok-by_number.ensures n
    ∙ ap (λ (ps : List Placed). option_map (entry_of (number_in numbers)) (find (is_at n) (map walked ps))) c.deref-3.ensures.value)
    (λ k. c.in_ok-by_name.ensures k
    ∙ ap (find (has_action_name k)) (ap (map (λ p. action_tree p.action.now)) c.deref-2.ensures.value ∙ actions_walked xs))
    (λ k. c.in_ok-variables.ensures k
    ∙ ap (λ as'. first_place 0 (written_names as') k)
    (ap (map (λ p. action_tree p.action.now)) c.deref.ensures.value ∙ actions_walked xs))
    (λ n. loops_by (number_in numbers) (find (is_at n) ws)
    ∙ (ap (λ (vs : List Walked). loops_or_none (loops_found n vs)) c.in_ok-actions.ensures
    ∙ walk_loops n d.top (c.numbers_stand_once.ensures d c.always_read.ensures)))
