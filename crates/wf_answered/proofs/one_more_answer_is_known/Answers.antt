use Rattle.wf_answered.proofs.SourceLemmas.{knows_more}
use Rattle.wf_answered.proofs.one_more_answer_is_known.Goals as goal

pub returns : goal.returns
returns c = λ d start inputs a new. knows_more d start inputs a record {
  others = c.an_added_answer_is_found.ensures.others;
  last = c.the_last_attempt_is_the_least.ensures.is;
  kept = c.the_last_attempt_is_the_least.ensures.kept;
} new
