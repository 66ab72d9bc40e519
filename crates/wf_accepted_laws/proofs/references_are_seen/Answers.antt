use Rattle.std.proofs.Common.{ℕ, length, nat_eq, sym, ap, ◌∙◌}
use Rattle.std.specs.List.{list_any}
use Rattle.wf_known_laws.specs.Layered.{layered}
use Rattle.wf_known_laws.specs.Names.{graph_names}
use Rattle.wf_accepted_laws.proofs.ActionLemmas.{all-numbers}
use Rattle.wf_accepted_laws.proofs.SeenLemmas.{all-seen, none-first_broken}
use Rattle.wf_accepted_laws.proofs.references_are_seen.Goals as goal

pub returns : goal.returns
returns c = λ d r none.
    let n : ℕ = length (graph_names d.top) in
    let below = c.numbers_are_below.ensures d r in
    let closed = c.entries_stay_in_their_graph.ensures d r in
    all-seen d
    (λ x y has_x has_y. c.order_is_exact.ensures.before n (layered d.top) below closed x y has_x has_y)
    (λ x y has_y. c.order_is_exact.ensures.contains n (layered d.top) below x y has_y)
    (λ m among. c.numbers_are_had.ensures d.top m ∙ ap (list_any (nat_eq m)) (sym (all-numbers d.top)) ∙ among)
    (c.the_first_broken_rule.ensures.none d (none-first_broken d none)).0
