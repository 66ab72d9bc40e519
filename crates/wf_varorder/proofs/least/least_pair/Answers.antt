use Rattle.std.proofs.Common.{◌+◌, List, Option, drop, map, option_map, ap, sym, ◌∙◌, arith}
use Rattle.wf_def.proofs.SizeLemmas.{drop_at_place}
use Rattle.wf_standing.specs.KnownSeen.{whole_seen}
use Rattle.wf_standing.specs.Seen.{standing_tree}
use Rattle.wf_standing.specs.Standing.{StandingTree}
use Rattle.wf_standing.specs.Whole.{Whole}
use Rattle.wf_standing.specs.declared.standing.Standing.{Standing}
use Rattle.wf_varorder.specs.Least.{least_from}
use Rattle.wf_varorder.specs.Pairs.{Pair, pairs_among, pairs_by}
use Rattle.wf_varorder.specs.Seen.{pair_tree}
use Rattle.wf_varorder.proofs.LeastLemmas.{least-append}
use Rattle.wf_varorder.proofs.least.least_pair.Goals as goal

pub loop-action-preserved : goal.loop-action-preserved
loop-action-preserved c =
    let w : Whole = whole_seen c.args.known.now in
    let xs : List Standing = c.args.all.now in
    let all : List StandingTree = map standing_tree xs in
    let i = c.loop-action.action-index in
    let x : Standing = c.action-item.result in
    let rest : List StandingTree = map standing_tree (drop (i + 1) xs) in
    let best : Option Pair = option_map pair_tree c.loop-action.best in
    let here = drop_at_place xs i x (omega arith) c.action-item.is in
    ap (λ (o : Option Pair). least_from o (pairs_among w c.args.rule all rest)) c.of_action-best.ensures
    ∙ sym (least-append best (pairs_by w c.args.rule all (standing_tree x)) (pairs_among w c.args.rule all rest))
    ∙ ap (λ (ys : List Standing). least_from best (pairs_among w c.args.rule all (map standing_tree ys))) (sym here)
    ∙ c.loop-action.invariant
