use Rattle.wf_loops.proofs.EarlierLemmas.{many_of}
use Rattle.wf_loops.proofs.FewLemmas.{few_of}
use Rattle.wf_loops.proofs.HeldLemmas.{told_of}
use Rattle.wf_loops.proofs.RoundLemmas.{split_of}
use Rattle.wf_loops.proofs.loops_are_those_round.Goals as goal

pub returns-clause-counted : goal.returns-clause-counted
returns-clause-counted c = λ g x y. many_of g x y

pub returns-clause-few : goal.returns-clause-few
returns-clause-few c = λ g once x y. few_of g once x y

pub returns-clause-inside : goal.returns-clause-inside
returns-clause-inside c = λ g once n x kind is inner.
    let told = told_of n x kind inner g once is in record { shared = told.many; left = told.leaves }

pub returns-clause-round : goal.returns-clause-round
returns-clause-round c = λ g once x l outer inner is.
    let split = split_of g once x outer l inner is in record { contains = split.contains; loops = split.outer }
