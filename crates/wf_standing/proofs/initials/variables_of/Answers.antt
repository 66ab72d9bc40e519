use Rattle.std.proofs.Common.{◌≡◌, ◌+◌, ◌++◌, List, map, drop, append_assoc, sym, ap, ◌∙◌, arith}
use Rattle.wf_def.proofs.SizeLemmas.{drop_at_place}
use Rattle.wf_def.specs.ActionSeen.{initial_tree}
use Rattle.wf_def.specs.ActionTree.{InitialTree}
use Rattle.wf_standing.specs.Seen.{initialised_found, standing_tree}
use Rattle.wf_standing.specs.Standing.{StandingTree, kind_at}
use Rattle.wf_standing.specs.Whole.{InitialisedTree, initialised_among, initialised_by, initials_of}
use Rattle.wf_standing.specs.declared.standing.Standing.{Standing}
use Rattle.wf_standing.proofs.StandingLemmas.{kind-seen}
use Rattle.wf_standing.proofs.initials.variables_of.Goals as goal

pub loop-standing-preserved : goal.loop-standing-preserved
loop-standing-preserved c k =
    let xs : List Standing = c.args.standings.now in
    let i = c.loop-standing.standing-index in
    let x : Standing = c.standing-item.result in
    let s : StandingTree = standing_tree x in
    let rest : List StandingTree = map standing_tree (drop (i + 1) xs) in
    let found : List InitialisedTree = initialised_found c.loop-standing.variables k in
    let here = drop_at_place xs i x (omega arith) c.standing-item.is in
    let own : map initial_tree c.initials_of.result.now
    ≡ initials_of (kind_at s) = c.initials_of.ensures ∙ ap initials_of (sym (kind-seen x)) in
    ap (λ (l : List InitialisedTree). l ++ initialised_among rest k) (c.in_ok-add_all.ensures k)
    ∙ ap (λ (is : List InitialTree). (found ++ initialised_by s is k) ++ initialised_among rest k) own
    ∙ append_assoc found (initialised_by s (initials_of (kind_at s)) k) (initialised_among rest k)
    ∙ ap (λ (ys : List Standing). found ++ initialised_among (map standing_tree ys) k) (sym here)
    ∙ c.loop-standing.invariant k
