-- WHY A RUN CAN'T BE RESUBMITTED from actions of these names: what is asked of the names and of the definition, and the least name of
-- which a question holds.
use Rattle.std.specs.Prelude.{ℕ, Bool, true, false, not, ◌&&◌, List, [], map, Option, Some, None, is_none, is_some, bytes_eq, if◌then◌else◌}
use Rattle.std.specs.List.{find}
use Rattle.wf_val.specs.declared.digest.Digest.{Digest}
use Rattle.wf_def.specs.ActionTree.{ActionTree, ActionTrees, KindTree, action_kind, action_name, action_number, foreach, until}
use Rattle.wf_def.specs.AllActions.{all_actions}
use Rattle.wf_def.specs.Names.{find_in}
use Rattle.wf_loops.specs.Table.{OrderTree, contains}
use Rattle.wf_record.specs.Record.{RowTree, find_row}
use Rattle.wf_record.specs.declared.status.Status.{Status}
use Rattle.wf_resubmit.specs.Least.{least_of}
use Rattle.wf_resubmit.specs.declared.fault.ResubmitFault.{ResubmitFault}

-- ---- what is asked of a name

-- no action has it
abbrev pub is_missing : ActionTrees → List ℕ → Bool
is_missing graph k = is_none (find_in k graph)

abbrev pub is_loop : KindTree → Bool
is_loop (foreach over repetitions graph) = true
is_loop (until test count fails graph) = true
is_loop kind = false

-- a loop round an action, and the first such of all actions, which is the outermost: in their list a container stands before all that it
-- holds
abbrev pub is_round : OrderTree → ℕ → ActionTree → Bool
is_round o n a = is_loop (action_kind a) && contains o (action_number a) n

abbrev pub loop_round : List ActionTree → OrderTree → Option ActionTree → Option ActionTree
loop_round all o None = None
loop_round all o (Some a) = find (is_round o (action_number a)) all

abbrev pub loop_of : ActionTrees → List ActionTree → OrderTree → List ℕ → Option ActionTree
loop_of graph all o k = loop_round all o (find_in k graph)

abbrev pub is_in_loop : ActionTrees → List ActionTree → OrderTree → List ℕ → Bool
is_in_loop graph all o k = is_some (loop_of graph all o k)

-- it has no row, or a Skipped one
abbrev pub ran_as : Status → Bool
ran_as Status.Skipped = false
ran_as s = true

abbrev pub has_run : Option RowTree → Bool
has_run None = false
has_run (Some r) = ran_as r.row.status

abbrev pub is_idle : List RowTree → List ℕ → Bool
is_idle rows k = not (has_run (find_row (record { name = k; at = [] }) rows))

-- ---- the refusals

abbrev pub no_action : Option (List ℕ) → Option ResubmitFault
no_action None = None
no_action (Some k) = Some (ResubmitFault.NoAction k)

abbrev pub name_of : Option ActionTree → List ℕ
name_of None = []
name_of (Some a) = action_name a

abbrev pub in_loop : ActionTrees → List ActionTree → OrderTree → Option (List ℕ) → Option ResubmitFault
in_loop graph all o None = None
in_loop graph all o (Some k) = Some (ResubmitFault.InLoop k (name_of (loop_of graph all o k)))

abbrev pub not_run : Option (List ℕ) → Option ResubmitFault
not_run None = None
not_run (Some k) = Some (ResubmitFault.NotRun k)

abbrev pub other_definition : Digest → Digest → Option ResubmitFault
other_definition kept given = if bytes_eq kept.bytes given.bytes then None else Some (ResubmitFault.OtherDefinition kept given)

abbrev pub first_of : Option ResubmitFault → Option ResubmitFault → Option ResubmitFault
first_of None other = other
first_of (Some f) other = Some f

abbrev pub refused_by_loops : ActionTrees → OrderTree → List (List ℕ) → Option ResubmitFault
refused_by_loops graph o names = in_loop graph (all_actions graph) o (least_of (is_in_loop graph (all_actions graph) o) names)

abbrev pub refused_by_rows : (given kept : Digest) → List RowTree → List (List ℕ) → Option ResubmitFault
refused_by_rows given kept rows names = first_of (not_run (least_of (is_idle rows) names)) (other_definition kept given)

-- `given` is the digest of the definition, and `kept` that of the record
abbrev pub refused : ActionTrees → OrderTree → (given kept : Digest) → List RowTree → List (List ℕ) → Option ResubmitFault
refused graph o given kept rows names =
    first_of (no_action (least_of (is_missing graph) names))
    (first_of (refused_by_loops graph o names) (refused_by_rows given kept rows names))

-- ---- and the actions, where none is

abbrev pub number_of : Option ActionTree → ℕ
number_of None = 0
number_of (Some a) = action_number a

abbrev pub numbers_of : ActionTrees → List (List ℕ) → List ℕ
numbers_of graph names = map (λ k. number_of (find_in k graph)) names
