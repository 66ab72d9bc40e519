-- The row with which a loop closes says how many iterations it had.
use Rattle.std.proofs.Common.{◌≡◌, ℕ, Bool, true, false, List, length, Option, Some, None, refl, ap}
use Rattle.wf_val.proofs.ValueTreeLemmas.{items-trees}
use Rattle.wf_refs.specs.Address.{Table}
use Rattle.wf_refs.specs.ActionTree.{ActionTrees}
use Rattle.wf_says.specs.Decisions.{DecisionTree, nothing, held, chosen, each, too_many, faulty, items_of}
use Rattle.wf_says.specs.Verdicts.{VerdictTree, met, astray}
use Rattle.wf_environment.specs.Record.{Row}
use Rattle.wf_environment.specs.Status.{Status}
use Rattle.wf_says.specs.Told.{count_items, count_told, told_rounds}
use Rattle.wf_meant.specs.Containers.{close_foreach, close_until, iterations_value}

-- a Foreach keeps its items
pub items_back : (graph : ActionTrees) (at : List ℕ) (known : Table Row) (decision : DecisionTree)
    → count_items (close_foreach graph at known decision).inputs ≡ items_of decision
items_back graph at known (each ts) = ap length (items-trees ts)
items_back graph at known too_many = refl
items_back graph at known (faulty f) = refl
items_back graph at known nothing = refl
items_back graph at known (held b) = refl
items_back graph at known (chosen v n) = refl

-- an Until gives out how many iterations it had
pub rounds_back : (fails : Bool) (s : Status) (n : ℕ) (v : Option VerdictTree)
    → count_told (told_rounds (close_until fails s (iterations_value n) v).outputs) ≡ n
rounds_back fails s n (Some (met true)) = refl
rounds_back false s n (Some (met false)) = refl
rounds_back true s n (Some (met false)) = refl
rounds_back fails s n (Some (astray f)) = refl
rounds_back fails s n None = refl
