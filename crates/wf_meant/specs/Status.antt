-- How a graph ends at given indexes, from the rows of its actions there.
use Rattle.std.specs.Prelude.{ℕ, zero, suc, Bool, true, false, not, ◌&&◌, List, length, Option, None, Some, if◌then◌else◌, nat_eq}
use Rattle.std.specs.List.{find, list_any}
use Rattle.wf_refs.specs.Address.{Table, address}
use Rattle.wf_refs.specs.ActionTree.{ActionTree, action_after, action_number}
use Rattle.wf_refs.specs.AllActions.{has_number}
use Rattle.wf_environment.specs.Status.{Status}
use Rattle.wf_environment.specs.Status.TheVariants.{Succeeded, Failed, Skipped, TimedOut, Cancelled}
use Rattle.wf_environment.specs.Record.{Row}

-- An action whose row is judged fails its graph by its status; a Skipped one hands the judgement on.
abbrev pub judge : Status → Bool → Bool
judge Succeeded handed = false
judge Failed handed = true
judge Skipped handed = handed
judge TimedOut handed = true
judge Cancelled handed = true

abbrev pub judge_row : Option Row → Bool → Bool
judge_row None handed = false
judge_row (Some row) handed = judge row.status handed

-- one that isn't in the graph is none of it
abbrev pub judge_found : Option ActionTree → Option Row → (ℕ → Bool) → Bool
judge_found None row fails = false
judge_found (Some a) row fails = judge_row row (list_any (λ need. fails need.number) (action_after a))

module _ (graph : List ActionTree) (at : List ℕ) (known : Table Row) where
  -- A judged action fails its graph: by its own row, or where it is Skipped by that of an action that its `runAfter` names, looked at so
  -- many actions far.
  abbrev pub fails : ℕ → ℕ → Bool
  fails zero n = false
  fails (suc far) n = judge_found (find (has_number n) graph) (known (address n at)) (fails far)

  -- some `runAfter` names the action
  abbrev pub is_named : ℕ → Bool
  is_named n = list_any (λ a. list_any (λ need. nat_eq need.number n) (action_after a)) graph

  -- The graph is Failed where an action that no other names fails it, else Succeeded.
  abbrev pub graph_status : Status
  graph_status =
      if list_any (λ a. not (is_named (action_number a)) && fails (length graph) (action_number a)) graph then Failed else Succeeded
