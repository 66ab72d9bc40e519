use Rattle.wf_drill.proofs.SizeLemmas.{actions_count, answers_count}
use Rattle.wf_drill.proofs.laws.a_drill_is_of_its_size.Goals as goal

pub returns-clause-actions : goal.returns-clause-actions
returns-clause-actions c = actions_count

pub returns-clause-answers : goal.returns-clause-answers
returns-clause-answers c = answers_count
