use Rattle.std.proofs.Common.{◌+◌, ℕ, Bool, List, Option, Some, None, cond, drop, map, option_map, ap, sym, ◌∙◌, arith}
use Rattle.wf_varorder.proofs.SizeLemmas.{drop_at_place}
use Rattle.wf_json.specs.Pointer.{lesser, least}
use Rattle.wf_rules.specs.Broken.{told}
use Rattle.wf_varorder.specs.KnownSeen.{whole_seen}
use Rattle.wf_breaks.specs.Rules.{action_breaks}
use Rattle.wf_varorder.specs.StandingSeen.{standing_tree}
use Rattle.wf_varorder.specs.Standing.{StandingTree, pointer_at}
use Rattle.wf_varorder.specs.StandingStanding.{Standing}
use Rattle.wf_varorder.proofs.StandingLemmas.{pointer-seen}
use Rattle.wf_rules.proofs.ToldLemmas.{told-more}
use Rattle.wf_rules.proofs.fault.least_action.Goals as goal

pub loop-standing-preserved : goal.loop-standing-preserved
loop-standing-preserved c =
    let xs : List Standing = c.args.standings.now in
    let i = c.loop-standing.standing-index in
    let x : Standing = c.standing-item.result in
    let broken : StandingTree → Bool = action_breaks (whole_seen c.args.known.now) c.args.rule in
    let best : Option (List ℕ) = option_map (λ p. p.now) c.loop-standing.best in
    let rest : List StandingTree = map standing_tree (drop (i + 1) xs) in
    let here = drop_at_place xs i x (omega arith) c.standing-item.is in
    ap (λ (o : Option (List ℕ)). lesser o (least (told broken pointer_at rest)))
    (c.with_pointer-best.ensures ∙ ap (λ (p : List ℕ). lesser best (cond c.action_breaks.result (Some p) None)) (sym (pointer-seen x))
    ∙ ap (λ (b : Bool). lesser best (cond b (Some (pointer_at (standing_tree x))) None)) c.action_breaks.ensures)
    ∙ told-more broken pointer_at (standing_tree x) rest best
    ∙ ap (λ (ys : List Standing). lesser best (least (told broken pointer_at (map standing_tree ys)))) (sym here)
    ∙ c.loop-standing.invariant
