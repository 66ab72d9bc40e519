use Rattle.wf_answers.proofs.AddedLemmas.{added-found, added-others, added-untied, added-in_order, added-in_any_order}
use Rattle.wf_answers.proofs.laws.an_added_answer_is_found.Goals as goal

pub returns : goal.returns
returns c = record {
  found = added-found;
  others = added-others;
  untied = added-untied;
  in_order = added-in_order;
  in_any_order = added-in_any_order;
}
