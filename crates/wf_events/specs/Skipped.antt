-- What gets rows with an action that doesn't run.
use Rattle.std.specs.Prelude.{ℕ, List, [], Option, Some, None}
use Rattle.wf_tables.specs.Plan.{EntryTree, PlanTree}
use Rattle.wf_tables.specs.PlanSeen.{at_place}

abbrev pub block_or_none : Option EntryTree → List ℕ
block_or_none None = []
block_or_none (Some e) = e.block

-- by a plan: the action and all inside it that stand in no loop there
abbrev pub block_of : PlanTree → ℕ → List ℕ
block_of p n = block_or_none (at_place p.entries n)
