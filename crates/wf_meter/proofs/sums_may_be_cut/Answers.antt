use Rattle.wf_meter.proofs.CutLemmas.{cut_bound, cut_whole}
use Rattle.wf_meter.proofs.sums_may_be_cut.Goals as goal

pub returns-clause-whole : goal.returns-clause-whole
returns-clause-whole g c = λ h xs. cut_whole h xs

pub returns-clause-bound : goal.returns-clause-bound
returns-clause-bound g c = λ h xs. cut_bound h xs
