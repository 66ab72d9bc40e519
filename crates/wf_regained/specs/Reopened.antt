-- THE CONTAINERS THAT ARE CLOSED AGAIN, one after the other as a definition has its actions.
use Rattle.std.specs.Prelude.{ℕ, Bool, ◌&&◌, cond, List, [], ◌∷◌, Some, None, option_map}
use Rattle.wf_layers.specs.Address.{Table, is_own}
use Rattle.wf_layers.specs.Machine.{Opening}
use Rattle.wf_def.specs.ActionTree.{ActionTree, action_name, action_number}
use Rattle.wf_opening.specs.Decisions.{DecisionTree}
use Rattle.wf_opening.specs.Verdicts.{VerdictTree}
use Rattle.wf_record.specs.Record.{RowTree, find_row}
use Rattle.wf_turns.specs.Resubmitted.{said_by}

abbrev pub Opened : Type 0
Opened = Opening DecisionTree VerdictTree

-- What the row of an action says that it decided: of one that stands in no loop, so its address has no index.
abbrev pub recalled_by : List RowTree → ActionTree → DecisionTree
recalled_by rows a = said_by (Some a) (option_map (λ r. r.row) (find_row (record { name = action_name a; at = [] }) rows))

-- it decided this, and nothing in it has begun
abbrev pub reopened_with : DecisionTree → Opened
reopened_with decision = record { decision = decision; next = 0; test = None }

-- `again` says which are closed again; they stand in no loop
module _ (rows : List RowTree) (again : ℕ → Bool) where
  abbrev pub with_reopened : Table Opened → ActionTree → Table Opened
  with_reopened opens a x =
      cond (again (action_number a) && is_own (action_number a) [] x) (Some (reopened_with (recalled_by rows a))) (opens x)

  abbrev pub with_all_reopened : Table Opened → List ActionTree → Table Opened
  with_all_reopened opens [] = opens
  with_all_reopened opens (a ∷ as') = with_all_reopened (with_reopened opens a) as'
