use Rattle.wf_fn_math.specs.Comparison.{beside}
use Rattle.wf_fn_math.proofs.ComparisonLemmas.{same-from_order}
use Rattle.wf_fn_math.proofs.comparison.equal_values_are_the_same.Goals as goal

pub returns : goal.returns
returns c = λ a b. same-from_order (beside a b) (beside b a)
