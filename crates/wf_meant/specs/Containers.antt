-- THE ROWS THAT CONTAINERS END WITH, by what they decided, how often an Until went round, its last test, and the rows inside them.
use Rattle.std.specs.Prelude.{ℕ, zero, suc, pos, Bool, true, false, ◌&&◌, ◌||◌, List, [], ◌∷◌, ◌++◌, length, Option, None, Some, codes}
use Rattle.std.specs.Prelude.{if◌then◌else◌, nat_eq}
use Rattle.std.specs.List.{list_any}
use Rattle.wf_val.specs.Arguments.{wrong_type}
use Rattle.wf_val.specs.ValueTree.{ValueTree, null, boolean, number, list, object, members, trees}
use Rattle.wf_val.specs.declared.function.Fun.{Fun}
use Rattle.wf_refs.specs.Told.{Told}
use Rattle.wf_refs.specs.Address.{Table, address}
use Rattle.wf_refs.specs.ActionTree.{ActionTree, action_kind, action_number, KindTree, terminate, scope, branch, switch, switch_else}
use Rattle.wf_refs.specs.ActionTree.{foreach}
use Rattle.wf_refs.specs.ActionTree.{until, ActionTrees, CaseTrees, no_cases, case_then, actions_in}
use Rattle.wf_refs.specs.AllActions.{kind_actions}
use Rattle.wf_environment.specs.Record.{Row}
use Rattle.wf_environment.specs.Status.{Status}
use Rattle.wf_environment.specs.Status.TheVariants.{Succeeded, Failed, Cancelled}
use Rattle.wf_says.specs.Decisions.{DecisionTree, held, chosen, each, too_many, faulty, taken}
use Rattle.wf_says.specs.Verdicts.{VerdictTree, met, astray, tested_from}
use Rattle.wf_done.specs.Done.{DoneTree, faulted}
use Rattle.wf_meant.specs.Status.{graph_status}

-- the test of an Until; no word is drawn before it
abbrev pub tested : Told → KindTree → VerdictTree
tested l (until test count fails graph) = tested_from l test 0
tested l kind = met true

-- ---- what containers come to

-- it ended so, and keeps and gives out this
abbrev pub code_of : Status → List ℕ
code_of Status.Succeeded = codes "OK"
code_of status = codes "ActionFailed"

abbrev pub closed_as : Status → ValueTree → ValueTree → DoneTree
closed_as status i o = record { status = status; code = code_of status; inputs = i; outputs = o; error = null }

-- it Failed by itself
abbrev pub failed_by : List ℕ → ValueTree → DoneTree
failed_by code o = record { status = Failed; code = code; inputs = null; outputs = o; error = null }

-- a Terminate inside it Succeeded
abbrev pub cut_short : ValueTree → DoneTree
cut_short i = record { status = Cancelled; code = codes "Terminated"; inputs = i; outputs = null; error = null }

-- ---- Terminates

abbrev pub is_terminate : KindTree → Bool
is_terminate (terminate inputs) = true
is_terminate kind = false

abbrev pub is_succeeded : Status → Bool
is_succeeded Status.Succeeded = true
is_succeeded status = false

abbrev pub has_succeeded : Option Row → Bool
has_succeeded None = false
has_succeeded (Some row) = is_succeeded row.status

-- one of these is a Terminate that Succeeded at these indexes: it stands in no loop, so those of a container round it are its own
abbrev pub any_terminated : List ActionTree → List ℕ → Table Row → Bool
any_terminated as' at known = list_any (λ a. is_terminate (action_kind a) && has_succeeded (known (address (action_number a) at))) as'

-- ---- at these indexes, by the rows that are known

module _ (at : List ℕ) (known : Table Row) where
  abbrev pub status_of : ActionTrees → Status
  status_of graph = graph_status (actions_in graph) at known

  -- the status of the branch of this number, from 1, with that of the one behind all cases
  abbrev pub case_status : CaseTrees → ℕ → Status → Status
  case_status no_cases k behind = behind
  case_status (case_then name value graph rest) zero behind = behind
  case_status (case_then name value graph rest) (suc zero) behind = status_of graph
  case_status (case_then name value graph rest) (suc (suc k)) behind = case_status rest (suc k) behind

  abbrev pub unless_cut : KindTree → ValueTree → Status → DoneTree
  unless_cut kind i status = if any_terminated (kind_actions kind) at known then cut_short i else closed_as status i null

  -- an If or a Switch ends as the branch that it took, and keeps what it decided by
  abbrev pub close_branch : KindTree → (ℕ → Status) → DecisionTree → DoneTree
  close_branch kind status (held b) = unless_cut kind (boolean b) (status (taken (held b)))
  close_branch kind status (chosen v n) = unless_cut kind v (status n)
  close_branch kind status (faulty f) = faulted f
  close_branch kind status decision = unless_cut kind null Succeeded

-- ---- loops: the rows inside stand at these indexes with one more

abbrev pub is_failed : Status → Bool
is_failed Status.Failed = true
is_failed status = false

-- one of so many iterations is Failed
abbrev pub any_iteration_failed : ActionTrees → List ℕ → Table Row → ℕ → Bool
any_iteration_failed graph at known zero = false
any_iteration_failed graph at known (suc n) =
    any_iteration_failed graph at known n || is_failed (status_of (at ++ n ∷ []) known graph)

-- a Foreach keeps its items
abbrev pub close_foreach : ActionTrees → List ℕ → Table Row → DecisionTree → DoneTree
close_foreach graph at known (each ts) =
    closed_as (if any_iteration_failed graph at known (length ts) then Failed else Succeeded) (list (trees ts)) null
close_foreach graph at known too_many = failed_by (codes "LimitExceeded") null
close_foreach graph at known (faulty f) = faulted f
close_foreach graph at known decision = faulted (wrong_type Fun.Foreach 0)

-- an Until gives out how many iterations it had
abbrev pub iterations_value : ℕ → ValueTree
iterations_value n = object (members ((codes "iterations", number (pos n)) ∷ []))

abbrev pub last_status : ActionTrees → List ℕ → Table Row → ℕ → Status
last_status graph at known zero = Succeeded
last_status graph at known (suc n) = status_of (at ++ n ∷ []) known graph

-- It ends as its last iteration, whether its test is met or the count is reached; but the option FailWhenLimitsReached makes the latter a
-- failure, and a test that can't be told is one.
abbrev pub close_until : (fails : Bool) → Status → (outputs : ValueTree) → Option VerdictTree → DoneTree
close_until fails status o (Some (met true)) = closed_as status null o
close_until false status o (Some (met false)) = closed_as status null o
close_until true status o (Some (met false)) = failed_by (codes "LimitReached") o
close_until fails status o (Some (astray f)) = record (faulted f) { outputs = o }
close_until fails status o None = closed_as status null o

-- ---- each kind of container; no other kind is one

abbrev pub closed : KindTree → List ℕ → DecisionTree → (iterations : ℕ) → Option VerdictTree → Table Row → DoneTree
closed (scope graph) at decision n verdict known = unless_cut at known (scope graph) null (status_of at known graph)
closed (branch test yes' no') at decision n verdict known =
    close_branch at known (branch test yes' no') (λ k. if nat_eq k 1 then status_of at known yes' else status_of at known no') decision
closed (switch on cases) at decision n verdict known =
    close_branch at known (switch on cases) (λ k. case_status at known cases k Succeeded) decision
closed (switch_else on cases default) at decision n verdict known =
    close_branch at known (switch_else on cases default) (λ k. case_status at known cases k (status_of at known default)) decision
closed (foreach items repetitions graph) at decision n verdict known = close_foreach graph at known decision
closed (until test count fails graph) at decision n verdict known =
    close_until fails (last_status graph at known n) (iterations_value n) verdict
closed kind at decision n verdict known = closed_as Succeeded null null
