use Rattle.std.proofs.Common.{ℕ, List, map, ap, sym, ◌∙◌, subst}
use Rattle.wf_val.specs.NameOrder.{IsInNameOrder}
use Rattle.wf_uses.proofs.NameLemmas.{ordered-in_order}
use Rattle.wf_uses.proofs.names.Names.of.Goals as goal

pub invariant_of-result : goal.invariant_of-result
invariant_of-result c =
    let names : List (List ℕ) = map (λ n. n.now) c.args.names.items in
    let whole = ap (map (λ n. n.now)) c.in_ok-listed.ensures ∙ c.in_ok-set.ensures in
    subst (IsInNameOrder (λ n. n)) (sym whole) (ordered-in_order names)
