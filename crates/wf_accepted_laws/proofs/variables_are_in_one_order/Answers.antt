use Rattle.std.proofs.Common.{◌≡◌, ℕ, [], nat_eq, sym, ap, ◌∙◌, map}
use Rattle.std.specs.List.{list_any}
use Rattle.wf_layers.specs.Definition.{has}
use Rattle.wf_known_laws.specs.Layered.{layered}
use Rattle.wf_rules.specs.Broken.{offences}
use Rattle.wf_rules.specs.Rule.{Rule}
use Rattle.wf_rules.specs.Standing.{number_at, standings_of}
use Rattle.wf_accepted_laws.proofs.ActionLemmas.{all-numbers}
use Rattle.wf_accepted_laws.proofs.PairLemmas.{all-numbered, no-variable-pairs}
use Rattle.wf_accepted_laws.proofs.SeenLemmas.{none-first_broken}
use Rattle.wf_accepted_laws.proofs.VariableLemmas.{in-one-order}
use Rattle.wf_accepted_laws.proofs.variables_are_in_one_order.Goals as goal

pub returns : goal.returns
returns c = λ d r none.
    let once = c.numbers_stand_once.ensures d r in
    let below = c.numbers_are_below.ensures d r in
    let closed = c.entries_stay_in_their_graph.ensures d r in
    let had : (m : ℕ) → has (layered d.top) m ≡ list_any (nat_eq m) (map number_at (standings_of d.top)) =
    λ m. c.numbers_are_had.ensures d.top m ∙ ap (list_any (nat_eq m)) (sym (all-numbers d.top)) in
    let kept : offences d Rule.Accesses ≡ [] = (c.the_first_broken_rule.ensures.none d (none-first_broken d none)).1.1.1.1.0 in
    in-one-order d
    ((c.no_pair_is_in_order.ensures.variables d once below closed
    (all-numbered (layered d.top) (standings_of d.top) (λ m among. had m ∙ among))).0 (no-variable-pairs d kept))
    (λ m is. sym (had m) ∙ is)
    (c.accesses_are_in_order.ensures.writers (layered d.top) once closed)
    (c.accesses_are_in_order.ensures.readers (layered d.top) once closed)
