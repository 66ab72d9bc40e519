use Rattle.wf_order.proofs.LoopLaws.{each_weaker, none_round}
use Rattle.wf_order.specs.Turns.{GoesInTurn, Never}
use Rattle.wf_order.proofs.instances.no_loop_is_round_two.Goals as goal

pub returns-clause-none : goal.returns-clause-none
returns-clause-none c = λ g n m none. none_round g n m none

pub returns-clause-in_turn : goal.returns-clause-in_turn
returns-clause-in_turn c = λ g n none. each_weaker Never GoesInTurn (λ pace no. absurd no) g n none
