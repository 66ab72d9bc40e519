use Rattle.std.proofs.Common.{ℕ, List, sym, subst}
use Rattle.std.specs.List.{count_by}
use Rattle.wf_reading.specs.Names.{graph_names}
use Rattle.wf_reading.specs.Numbers.{is_below}
use Rattle.wf_known_laws.proofs.LayeredLemmas.{graph-once}
use Rattle.wf_known_laws.proofs.NumberLemmas.{apart-map, AreApart, same_place}
use Rattle.wf_known_laws.proofs.numbers_stand_once.Goals as goal

pub returns : goal.returns
returns c = λ d r.
    let names : List (List ℕ) = graph_names d.top in
    graph-once d.top (subst AreApart (sym (c.numbers_are_places.ensures d r))
    (apart-map (λ k. count_by (is_below k) names) names (same_place names) (c.names_stand_once.ensures d r)))
