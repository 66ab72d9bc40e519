use Rattle.std.proofs.Common.{◌+◌, ℕ, List, Option, Some, None, map, drop, bytes_eq, cond, sym, ap, ◌∙◌, arith}
use Rattle.std.specs.List.{find}
use Rattle.std.specs.Option.{option_or}
use Rattle.wf_def.proofs.SizeLemmas.{drop_at_place}
use Rattle.wf_standing.specs.Seen.{action_found, standing_tree}
use Rattle.wf_standing.specs.Standing.{StandingTree}
use Rattle.wf_standing.specs.Whole.{has_name}
use Rattle.wf_standing.specs.declared.standing.Standing.{Standing}
use Rattle.wf_standing.proofs.NameLemmas.{one-more}
use Rattle.wf_standing.proofs.StandingLemmas.{name-seen}
use Rattle.wf_standing.proofs.names.names_of.Goals as goal

pub loop-standing-preserved : goal.loop-standing-preserved
loop-standing-preserved c k =
    let xs : List Standing = c.args.standings.now in
    let i = c.loop-standing.standing-index in
    let x : Standing = c.standing-item.result in
    let rest : List StandingTree = map standing_tree (drop (i + 1) xs) in
    let here = drop_at_place xs i x (omega arith) c.standing-item.is in
    ap (λ (o : Option StandingTree). option_or o (find (has_name k) rest)) (c.in_ok-add.ensures k)
    ∙ ap (λ (n : List ℕ). option_or
    (option_or (action_found c.loop-standing.names k) (cond (bytes_eq k n) (Some (standing_tree x)) None)) (find (has_name k) rest))
    (sym (name-seen x))
    ∙ one-more (action_found c.loop-standing.names k) k (standing_tree x) rest
    ∙ ap (λ (ys : List Standing). option_or (action_found c.loop-standing.names k) (find (has_name k) (map standing_tree ys))) (sym here)
    ∙ c.loop-standing.invariant k
