-- Worked tests of an Until.
use Rattle.std.proofs.Common.{Ok, ◌≡◌, refl, [], ◌∷◌, true, false}
use Rattle.std.specs.Prelude.{codes}
use Rattle.wf_val.specs.ValueTree.{null}
use Rattle.wf_val.specs.declared.fault.EvalFault.{EvalFault}
use Rattle.wf_val.specs.declared.function.Fun.{Fun}
use Rattle.wf_template.specs.ExprTree.{ExprTree}
use Rattle.wf_template.specs.TemplateTree.{plain, whole}
use Rattle.wf_template.specs.DataTree as inputs
use Rattle.wf_template.specs.CondTree.{CondTree, holds, compare_by}
use Rattle.wf_eval.proofs.WorkedLook.{nowhere, somewhere}
use Rattle.wf_eval.proofs.WorkedExpressions.{word, truth, untruth, nothing, by_zero, of}
use Rattle.wf_opening.specs.Verdicts.{VerdictTree, met, astray, met_as, tested_from, ends}

abbrev tested : CondTree → VerdictTree
tested c = tested_from somewhere c 0

test-true : tested (holds (whole truth)) ≡ met true
test-true = refl

test-false : tested (holds (whole untruth)) ≡ met false
test-false = refl

abbrev v : ExprTree
v = of (codes "variables") (word (codes "v") ∷ [])

test-look : tested (compare_by Fun.Equals (inputs.text (whole v)) (inputs.text (plain (codes "x")))) ≡ met true
test-look = refl

test-fault : tested (holds (whole by_zero)) ≡ astray (EvalFault.Range Fun.Div)
test-fault = refl

test-text : tested (holds (plain (codes "true"))) ≡ astray (EvalFault.WrongType Fun.Condition 1)
test-text = refl

test-null : tested (holds (whole nothing)) ≡ astray (EvalFault.WrongType Fun.Condition 1)
test-null = refl

test-no_value : tested_from nowhere (holds (whole v)) 0 ≡ astray (EvalFault.NoValue (codes "v"))
test-no_value = refl

test-other : met_as (Ok null) ≡ astray (EvalFault.WrongType Fun.Condition 1)
test-other = refl

-- ---- it ends where it is met, and where it can't be told

ends-met : ends (met true) ≡ true
ends-met = refl

ends-not_met : ends (met false) ≡ false
ends-not_met = refl

ends-astray : ends (astray (EvalFault.Range Fun.Div)) ≡ true
ends-astray = refl
