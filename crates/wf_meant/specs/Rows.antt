-- What is known of an action that has ended: the row of a record, and what it tells.
use Rattle.std.specs.Prelude.{ℕ, List, [], Option, Some, None}
use Rattle.wf_val.specs.ValueTree.{ValueTree, object, no_members}
use Rattle.wf_refs.specs.Address.{Table, address}
use Rattle.wf_refs.specs.ActionTree.{ActionTree, action_kind, KindTree, foreach, until}
use Rattle.wf_refs.specs.AllActions.{numbered}
use Rattle.wf_refs.specs.DefTree.{DefTree}
use Rattle.wf_environment.specs.Record.{Row}
use Rattle.wf_environment.specs.Try.{Try}
use Rattle.wf_done.specs.Done as done
use Rattle.wf_done.specs.Done.{DoneTree}
use Rattle.wf_says.specs.Told.{items_said, rounds_said}

-- what an action came to, with its tracked properties and its attempts
abbrev pub row_of : DoneTree → ValueTree → List Try → Row
row_of d tracked attempts = record {
  status = d.status;
  code = d.code;
  inputs = d.inputs;
  outputs = d.outputs;
  error = d.error;
  tracked = tracked;
  attempts = attempts;
}

abbrev pub done_of : Row → DoneTree
done_of row = record { status = row.status; code = row.code; inputs = row.inputs; outputs = row.outputs; error = row.error }

-- what expressions see of the action of this name: of its tracked properties and its attempts nothing
abbrev pub view_of : List ℕ → Row → ValueTree
view_of name row = done.view name (done_of row)

-- the row of an action that didn't run
abbrev pub skipped : Row
skipped = row_of done.skipped (object no_members) []

-- How many iterations the row of a loop says that it had, by what it kept of what it decided: the list of a Foreach are its inputs, and an
-- Until gives out how often it went round. What else the row has says nothing of it. Other actions have none.
abbrev pub turns_said : KindTree → Row → ℕ
turns_said (foreach items repetitions graph) row = items_said row
turns_said (until test count fails graph) row = rounds_said row
turns_said kind row = 0

-- of an action, which may be there, and its row; one that has no row had none
abbrev pub iterations_of : Option ActionTree → Option Row → ℕ
iterations_of None row = 0
iterations_of (Some a) None = 0
iterations_of (Some a) (Some row) = turns_said (action_kind a) row

-- of the action of this number at these indexes, by the rows that are known
abbrev pub turns_at : DefTree → Table Row → ℕ → List ℕ → ℕ
turns_at d known l at = iterations_of (numbered l d.top) (known (address l at))
