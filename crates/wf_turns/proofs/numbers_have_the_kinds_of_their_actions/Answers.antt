use Rattle.wf_turns.proofs.FoundLemmas.{kind_is}
use Rattle.wf_turns.proofs.numbers_have_the_kinds_of_their_actions.Goals as goal

pub returns : goal.returns
returns c = λ graph n. kind_is n graph
