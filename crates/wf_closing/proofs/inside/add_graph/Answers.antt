use Rattle.std.proofs.Common.{◌≡◌, ◌++◌, ◌∷◌, [], map, ap, sym, ◌∙◌}
use Rattle.std.proofs.lemmas.List.{map-append}
use Rattle.wf_def.specs.ActionSeen.{graph_tree}
use Rattle.wf_def.specs.ActionTree.{actions_in}
use Rattle.wf_closing.specs.Steps.{JudgedTree, judged_of}
use Rattle.wf_closing.specs.StepsSeen.{judged_tree}
use Rattle.wf_def.proofs.ListLemmas.{tops_listed}
use Rattle.wf_closing.proofs.inside.add_graph.Goals as goal

pub returns : goal.returns
returns c =
    let made : judged_tree c.in_ok-of.field-0 ≡ judged_of (actions_in (graph_tree c.args.graph.now)) =
    c.in_ok-of.ensures ∙ ap judged_of (c.as_slice.ensures ∙ sym (tops_listed c.args.graph.now)) in
    ap (map judged_tree) c.in_ok-push.ensures.items
    ∙ map-append judged_tree c.args.graphs.now.items (c.in_ok-of.field-0 ∷ [])
    ∙ ap (λ (j : JudgedTree). map judged_tree c.args.graphs.now.items ++ j ∷ []) made
