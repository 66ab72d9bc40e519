-- THE ROWS THAT ARE KEPT, one after the other as a record has them.
use Rattle.std.specs.Prelude.{ℕ, Bool, false, ◌&&◌, cond, List, [], ◌∷◌, Option, Some, None}
use Rattle.wf_layers.specs.Address.{Address, Table, is_own}
use Rattle.wf_def.specs.ActionTree.{ActionTree, action_number}
use Rattle.wf_def.specs.DefTree.{DefTree}
use Rattle.wf_record.specs.Record.{Row, RowTree}
use Rattle.wf_turns.specs.Points.{action_named}

-- whether it is the action of a row, at the row's indexes
abbrev pub is_action_at : Option ActionTree → List ℕ → Address → Bool
is_action_at None at x = false
is_action_at (Some a) at x = is_own (action_number a) at x

abbrev pub is_row_of : DefTree → RowTree → Address → Bool
is_row_of d r x = is_action_at (action_named d r.address.name) r.address.at x

-- `keeps` says of which actions rows are kept
module _ (d : DefTree) (keeps : ℕ → Bool) where
  abbrev pub with_kept : Table Row → RowTree → Table Row
  with_kept rows r x = cond (keeps x.name && is_row_of d r x) (Some r.row) (rows x)

  abbrev pub with_all_kept : Table Row → List RowTree → Table Row
  with_all_kept rows [] = rows
  with_all_kept rows (r ∷ rs) = with_all_kept (with_kept rows r) rs
