use Rattle.std.proofs.Common.{◌≡◌, ℕ, [], nat_eq, sym, ap, ◌∙◌, map}
use Rattle.std.specs.List.{list_any}
use Rattle.wf_layers.specs.Definition.{has}
use Rattle.wf_known_laws.specs.ActionTree.{action_kind}
use Rattle.wf_known_laws.specs.Layered.{layered}
use Rattle.wf_known_laws.specs.Turns.{Never}
use Rattle.wf_rules.specs.Broken.{offences}
use Rattle.wf_rules.specs.Rule.{Rule}
use Rattle.wf_rules.specs.Kinds.{is_loop}
use Rattle.wf_rules.specs.Standing.{number_at, standings_of}
use Rattle.wf_rules.proofs.TurnLemmas.{all-told, tells-loop}
use Rattle.wf_accepted_laws.proofs.ActionLemmas.{all-numbers}
use Rattle.wf_accepted_laws.proofs.EndLemmas.{answers-in-order, ends-in-no-loop}
use Rattle.wf_accepted_laws.proofs.PairLemmas.{all-numbered, no-answer-pairs}
use Rattle.wf_accepted_laws.proofs.SeenLemmas.{none-first_broken}
use Rattle.wf_accepted_laws.proofs.responses_are_in_order.Goals as goal

pub returns : goal.returns
returns c = λ d r none.
    let once = c.numbers_stand_once.ensures d r in
    let below = c.numbers_are_below.ensures d r in
    let closed = c.entries_stay_in_their_graph.ensures d r in
    let had : (m : ℕ) → has (layered d.top) m ≡ list_any (nat_eq m) (map number_at (standings_of d.top)) =
    λ m. c.numbers_are_had.ensures d.top m ∙ ap (list_any (nat_eq m)) (sym (all-numbers d.top)) in
    let of_all = all-numbered (layered d.top) (standings_of d.top) (λ m among. had m ∙ among) in
    let hold = c.the_first_broken_rule.ensures.none d (none-first_broken d none) in
    let answers : offences d Rule.Responses ≡ [] = hold.1.1.1.1.1.1.1.0 in
    let loops : offences d Rule.Ends ≡ [] = hold.1.1.1.1.1.1.1.1.0 in
    answers-in-order d (c.no_loop_is_round_two.ensures.none (layered d.top)) (c.no_loop_is_round_two.ensures.in_turn (layered d.top))
    (λ m is. sym (had m) ∙ is)
    (c.accesses_are_in_order.ensures.writers (layered d.top) once closed)
    (c.accesses_are_in_order.ensures.readers (layered d.top) once closed) of_all
    (ends-in-no-loop d (all-told (λ c. is_loop (action_kind c)) Never tells-loop d.top once) loops)
    ((c.no_pair_is_in_order.ensures.answers d below closed of_all).0 (no-answer-pairs d answers))
