use Rattle.std.proofs.Common.{◌≡◌, ℕ, true, List, length, nat_eq, sym, subst, ◌∙◌}
use Rattle.std.specs.List.{count_by, list_any}
use Rattle.wf_reading.specs.Names.{graph_names}
use Rattle.wf_reading.specs.Numbers.{is_below}
use Rattle.wf_known_laws.proofs.LayeredLemmas.{graph-had}
use Rattle.wf_known_laws.proofs.NumberLemmas.{below-map, place_below}
use Rattle.wf_known_laws.proofs.numbers_are_below.Goals as goal

pub returns : goal.returns
returns c = λ d r m has_m.
    let names : List (List ℕ) = graph_names d.top in
    below-map (λ k. count_by (is_below k) names) names (length names) (place_below names) m
    (subst (λ (ns : List ℕ). list_any (nat_eq m) ns ≡ true) (c.numbers_are_places.ensures d r) (sym (graph-had m d.top) ∙ has_m))
