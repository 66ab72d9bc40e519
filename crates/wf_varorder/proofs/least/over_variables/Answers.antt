use Rattle.std.proofs.Common.{◌+◌, ℕ, List, Option, drop, map, option_map, ap, sym, ◌∙◌, arith}
use Rattle.wf_def.proofs.SizeLemmas.{drop_at_place}
use Rattle.wf_standing.specs.KnownSeen.{whole_seen}
use Rattle.wf_standing.specs.Seen.{standing_tree}
use Rattle.wf_standing.specs.Standing.{StandingTree}
use Rattle.wf_standing.specs.Whole.{Whole}
use Rattle.wf_varorder.specs.Least.{least_from}
use Rattle.wf_varorder.specs.Pairs.{Pair, pairs_over, pairs_with, writes_it}
use Rattle.wf_varorder.specs.Seen.{pair_tree}
use Rattle.wf_varorder.proofs.LeastLemmas.{least-append}
use Rattle.wf_varorder.proofs.least.over_variables.Goals as goal

pub loop-name-preserved : goal.loop-name-preserved
loop-name-preserved c =
    let w : Whole = whole_seen c.args.known.now in
    let y : StandingTree = standing_tree c.args.writer.now in
    let all : List StandingTree = map standing_tree c.args.all.now in
    let xs = c.args.names.now in
    let i = c.loop-name.name-index in
    let x = c.name-item.result in
    let rest : List (List ℕ) = map (λ n. n.now) (drop (i + 1) xs) in
    let best : Option Pair = option_map pair_tree c.loop-name.best in
    let here = drop_at_place xs i x (omega arith) c.name-item.is in
    ap (λ (o : Option Pair). least_from o (pairs_over w y all rest)) c.with_claim-best.ensures
    ∙ sym (least-append best (pairs_with w (writes_it x.now) y all) (pairs_over w y all rest))
    ∙ ap (λ ys. least_from best (pairs_over w y all (map (λ n. n.now) ys))) (sym here)
    ∙ c.loop-name.invariant
