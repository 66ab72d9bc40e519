use Rattle.std.proofs.Common.{◌≡◌, []}
use Rattle.wf_known_laws.specs.ActionTree.{action_kind}
use Rattle.wf_known_laws.specs.Layered.{layered}
use Rattle.wf_known_laws.specs.Turns.{Never}
use Rattle.wf_rules.specs.Broken.{offences}
use Rattle.wf_rules.specs.Rule.{Rule}
use Rattle.wf_rules.specs.Kinds.{is_loop}
use Rattle.wf_rules.proofs.TurnLemmas.{all-told, tells-loop}
use Rattle.wf_accepted_laws.proofs.EndLemmas.{ends-in-no-loop, stand-in-no-loop}
use Rattle.wf_accepted_laws.proofs.SeenLemmas.{none-first_broken}
use Rattle.wf_accepted_laws.proofs.ends_stand_in_no_loop.Goals as goal

pub returns : goal.returns
returns c = λ d r none.
    let once = c.numbers_stand_once.ensures d r in
    let kept : offences d Rule.Ends ≡ [] = (c.the_first_broken_rule.ensures.none d (none-first_broken d none)).1.1.1.1.1.1.1.1.0 in
    stand-in-no-loop d (c.no_loop_is_round_two.ensures.none (layered d.top))
    (ends-in-no-loop d (all-told (λ c. is_loop (action_kind c)) Never tells-loop d.top once) kept)
