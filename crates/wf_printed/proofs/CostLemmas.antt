-- Runs cost together at least as often what one costs at least as there are runs.
use Rattle.std.proofs.Common.{ℕ, ◌*◌, ◌≤◌, List, [], ◌∷◌, length, arith}
use native.Mathlib.Nat.{mul-suc, mul-zero}
use Rattle.std.proofs.lemmas.List.Sums.{sum_by-cons}
use Rattle.wf_answers.specs.Inputs.{InputsTree}
use Rattle.wf_def.specs.DefTree.{DefTree}
use Rattle.wf_environment.specs.Environment.{Environment, fresh}
use Rattle.wf_run.specs.Record.{meaning}
use Rattle.wf_record.specs.Cost.{cost}
use Rattle.wf_told.specs.Records.{records_of}
use Rattle.wf_told.specs.Text.{total_cost}
use Rattle.wf_trigger.specs.Starts.{StartTree}

pub many_cost : (d : DefTree) (i : InputsTree) (least : ℕ) → ((e : Environment) → least ≤ cost (meaning d e)) → (starts : List StartTree)
    → least * length starts ≤ total_cost (records_of d i starts)
many_cost d i least each [] = omega (arith, mul-zero least)
many_cost d i least each (s ∷ ss) =
    omega (
      arith,
      mul-suc least (length ss),
      sum_by-cons cost (meaning d (fresh s i)) (records_of d i ss),
      each (fresh s i),
      many_cost d i least each ss,
    )
