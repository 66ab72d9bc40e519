use Rattle.std.proofs.Common.{◌≡◌, false, filter, length, map, not, replicate, ap, ◌∙◌, sym}
use Rattle.std.proofs.lemmas.List.{length-map}
use Rattle.wf_def.specs.ActionSeen.{action_tree}
use Rattle.wf_def.specs.ActionTree.{action_number}
use Rattle.wf_closing.specs.Steps.{all_named, is_marked, is_named, size_of, steps_from}
use Rattle.wf_closing.specs.StepsSeen.{step_tree}
use Rattle.wf_closing.proofs.JudgedLemmas.{ends_are, judged_same}
use Rattle.wf_closing.proofs.judged.Judged.of.Goals as goal

pub returns : goal.returns
returns c =
    let graph = map action_tree c.args.graph.now in
    let size : c.size_of-size.result ≡ size_of graph = c.size_of-size.ensures in
    let named : c.in_ok-named.named.items ≡ all_named graph (replicate (size_of graph) false) =
    c.in_ok-named.ensures ∙ ap (λ n. all_named graph (replicate n false)) size in
    let ends : c.in_ok-ends.ends.items ≡ filter (λ n. not (is_named graph n)) (map action_number graph) =
    (rw c.deref.ensures.value at c.in_ok-ends.ensures)
    ∙ ap (λ marks. filter (λ n. not (is_marked marks n)) (map action_number graph)) named
    ∙ ends_are graph in
    let steps : map step_tree c.in_ok-steps_of.field-0.items ≡ steps_from (length graph) graph (replicate (size_of graph) false) =
    c.in_ok-steps_of.ensures
    ∙ ap (λ n. steps_from n graph (replicate c.size_of-size.result false)) (sym (length-map c.args.graph.now action_tree))
    ∙ ap (λ n. steps_from (length graph) graph (replicate n false)) size in
    judged_same size steps ends
