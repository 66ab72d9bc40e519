use Rattle.wf_done.proofs.RanLemmas.{begun-ran}
use Rattle.wf_done.proofs.laws.what_ran_is_not_skipped.Goals as goal

pub returns : goal.returns
returns c = begun-ran c.the_last_attempt_is_the_least.ensures.is c.attempts_go_on_to_the_last.ensures.goes_on
