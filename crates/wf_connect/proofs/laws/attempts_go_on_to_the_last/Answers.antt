use Rattle.wf_connect.proofs.LastLemmas.{repeated_where, to_the_last}
use Rattle.wf_connect.proofs.laws.attempts_go_on_to_the_last.Goals as goal

pub returns-clause-goes_on : goal.returns-clause-goes_on
returns-clause-goes_on c = repeated_where

pub returns-clause-to_the_last : goal.returns-clause-to_the_last
returns-clause-to_the_last c = to_the_last
