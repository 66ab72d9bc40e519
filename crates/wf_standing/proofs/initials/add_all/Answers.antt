use Rattle.std.proofs.Common.{◌+◌, ◌++◌, [], ◌∷◌, List, map, drop, append_assoc, sym, ap, ◌∙◌, arith}
use Rattle.wf_def.proofs.SizeLemmas.{drop_at_place}
use Rattle.wf_def.specs.ActionSeen.{initial_tree}
use Rattle.wf_def.specs.ActionTree.{InitialTree}
use Rattle.wf_def.specs.declared.sort.Initial.{Initial}
use Rattle.wf_standing.specs.Seen.{initialised_found, standing_tree}
use Rattle.wf_standing.specs.Standing.{StandingTree}
use Rattle.wf_standing.specs.Whole.{InitialisedTree, initialised_by}
use Rattle.wf_standing.proofs.InitialLemmas.{by-more}
use Rattle.wf_standing.proofs.initials.add_all.Goals as goal

pub loop-initial-preserved : goal.loop-initial-preserved
loop-initial-preserved c k =
    let xs : List Initial = c.args.initials.now in
    let i = c.loop-initial.initial-index in
    let x : Initial = c.initial-item.result in
    let s : StandingTree = standing_tree c.args.standing.now in
    let rest : List InitialTree = map initial_tree (drop (i + 1) xs) in
    let found : List InitialisedTree = initialised_found c.loop-initial.variables k in
    let here = drop_at_place xs i x (omega arith) c.initial-item.is in
    ap (λ (l : List InitialisedTree). l ++ initialised_by s rest k) (c.in_ok-add.ensures k)
    ∙ append_assoc found (initialised_by s (initial_tree x ∷ []) k) (initialised_by s rest k)
    ∙ sym (ap (λ (l : List InitialisedTree). found ++ l) (by-more s (initial_tree x) rest k))
    ∙ ap (λ (ys : List Initial). found ++ initialised_by s (map initial_tree ys) k) (sym here)
    ∙ c.loop-initial.invariant k
