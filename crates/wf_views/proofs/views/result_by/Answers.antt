use Rattle.std.proofs.Common.{◌≡◌, IfOk, Option, Some, map, option_map, subst, sym, ap, ◌∙◌}
use Rattle.wf_val.specs.Seen.{tree}
use Rattle.wf_val.specs.ValueTree.{ValueTree}
use Rattle.wf_def.specs.ActionSeen.{action_tree, kind_tree}
use Rattle.wf_catalog.specs.References.{first_level}
use Rattle.wf_catalog.specs.ReadSeen.{def_tree}
use Rattle.wf_catalog.specs.PlacesSeen.{named_tree}
use Rattle.wf_views.specs.Seen.{rows_seen}
use Rattle.wf_views.proofs.ViewLemmas.{result_given}
use Rattle.wf_views.proofs.views.result_by.Goals as goal

pub returns-in-Some : goal.returns-in-Some
returns-in-Some c =
    let same = result_given (def_tree c.args.places.now) c.args.loops.now c.args.at.now (rows_seen c.args.rows.now.0)
    (action_tree c.args.action.now) (first_level (kind_tree c.kind_of.result.now)) (map named_tree c.as_slice.result.now)
    (sym (ap first_level c.kind_of.ensures))
    (ap (λ xs. Some (map named_tree xs)) c.as_slice.ensures.items
    ∙ (sym (ap (option_map (map named_tree)) c.in-Some.is) ∙ c.in_ok-inner.ensures)) in
    subst (λ (o : Option ValueTree). IfOk c.result_of.result (λ v. option_map tree v ≡ o)) same c.result_of.ensures
