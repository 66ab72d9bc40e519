-- THE VALUE OF A VARIABLE at a point: that which the last Succeeded writer before the point gives it.
use Rattle.std.specs.Prelude.{ℕ, suc, Bool, cond, List, [], ◌∷◌, ◌++◌, map, flat_map, filter, filter_map, Option, Some, None, option_map}
use Rattle.std.specs.Prelude.{bytes_eq, nat_eq, if◌then◌else◌}
use Rattle.std.specs.List.{list_any}
use Rattle.std.specs.Option.{option_and_then}
use Rattle.wf_val.specs.ValueTree.{ValueTree}
use Rattle.wf_refs.specs.Address.{Address, Table, address}
use Rattle.wf_refs.specs.ActionTree.{ActionTree, action_kind, action_number}
use Rattle.wf_refs.specs.AllActions.{all_actions}
use Rattle.wf_refs.specs.DefTree.{DefTree}
use Rattle.wf_refs.specs.Sites.{writes_of}
use Rattle.wf_environment.specs.Status.{Status}
use Rattle.wf_done.specs.Given.{gives}
use Rattle.wf_loops.specs.Loops.{loops_of}
use Rattle.wf_meant.specs.Points.{Point, graph_of, point_of, sees}
use Rattle.wf_meant.specs.References.{upto}
use Rattle.wf_meant.specs.Rows.{turns_at}
use Rattle.wf_environment.specs.Record.{Row}

-- what a point sees of the rows
abbrev pub seen_by : Point → Table Row → Table Row
seen_by p known x = cond (sees p x) (known x) None

-- ---- the instances of an action that may be earlier than a point, by their indexes

module _ (d : DefTree) (known : Table Row) where
  -- The loops round the action that are round the point, too, are begun up to the point's index; of the others the rows say how many
  -- iterations they had. `at` are the indexes so far, and the last two lists the loops and the indexes of the point as long as the action's
  -- are the same.
  abbrev pub indexes_from : List ℕ → List ℕ → List ℕ → List ℕ → List (List ℕ)
  indexes_from [] at loops js = at ∷ []
  indexes_from (l ∷ ls) at (m ∷ ms) (j ∷ js) =
      if nat_eq l m
      then flat_map (λ k. indexes_from ls (at ++ k ∷ []) (if nat_eq k j then ms else []) js) (upto (suc j))
      else flat_map (λ k. indexes_from ls (at ++ k ∷ []) [] []) (upto (turns_at d known l at))
  indexes_from (l ∷ ls) at ms js = flat_map (λ k. indexes_from ls (at ++ k ∷ []) [] []) (upto (turns_at d known l at))

abbrev pub instances_at : DefTree → Point → Table Row → ℕ → List Address
instances_at d p known x = map (address x) (indexes_from d (seen_by p known) (loops_of (graph_of d) x) [] p.loops p.at)

-- ---- writers

pub record Written : Type 0 where
  pub at : Address
  pub value : ValueTree

abbrev pub writes : List ℕ → ActionTree → Bool
writes v a = list_any (bytes_eq v) (writes_of (action_kind a))

abbrev pub given_as : List ℕ → Status → ValueTree → Option ValueTree
given_as v Status.Succeeded outputs = gives v outputs
given_as v status outputs = None

abbrev pub given_by : List ℕ → Row → Option ValueTree
given_by v row = given_as v row.status row.outputs

abbrev pub written_at : List ℕ → Table Row → Address → Option Written
written_at v rows x = option_map (λ value. record { at = x; value = value }) (option_and_then (given_by v) (rows x))

-- all that gave the variable a value, earlier than the point
abbrev pub written_before : DefTree → Point → Table Row → List ℕ → List Written
written_before d p known v =
    flat_map (λ a. filter_map (written_at v (seen_by p known)) (instances_at d p known (action_number a)))
    (filter (writes v) (all_actions d.top))

-- the later of two
abbrev pub later_of : DefTree → Option Written → Written → Option Written
later_of d None w = Some w
later_of d (Some best) w = if sees (point_of d w.at) best.at then Some w else Some best

abbrev pub last_from : DefTree → Option Written → List Written → Option Written
last_from d best [] = best
last_from d best (w ∷ ws) = last_from d (later_of d best w) ws

abbrev pub variable_at : DefTree → Point → Table Row → List ℕ → Option ValueTree
variable_at d p known v = option_map (λ w. w.value) (last_from d None (written_before d p known v))
