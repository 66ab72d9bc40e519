-- What `actions` and `result` give, and the views that are listed for several instances and for several actions.
use Rattle.std.specs.Prelude.{ℕ, List, [], ◌∷◌, ◌++◌, flat_map, map, take, Option, Some, None, option_map}
use Rattle.std.specs.Option.{option_and_then}
use Rattle.wf_catalog.specs.Looked.{or_null}
use Rattle.wf_val.specs.ValueTree.{ValueTree, list, trees}
use Rattle.wf_layers.specs.Address.{Table}
use Rattle.wf_def.specs.ActionTree.{ActionTree, action_kind, action_number}
use Rattle.wf_def.specs.DefTree.{DefTree}
use Rattle.wf_record.specs.Record.{Row}
use Rattle.wf_catalog.specs.Loops.{loops_of}
use Rattle.wf_catalog.specs.Points.{action_named, graph_of}
use Rattle.wf_catalog.specs.References.{Spots, first_level, own_loop, places_in, result_in, spots_by, upto, view_in, view_there}
use Rattle.wf_views.specs.Loops.{beyond, common}

-- the indexes of so many iterations inside these
abbrev pub iterations_at : List ℕ → ℕ → List (List ℕ)
iterations_at at n = map (λ j. at ++ j ∷ []) (upto n)

module _ (known : Table Row) where
  -- of one action in so many iterations; null stands for a row that isn't there
  abbrev pub views_in : ActionTree → List ℕ → ℕ → List ValueTree
  views_in a at n = map (λ is. or_null (view_there a known is)) (iterations_at at n)

  -- of several actions at indexes
  abbrev pub views_at : List ActionTree → List ℕ → List ValueTree
  views_at inner at = map (λ a. or_null (view_there a known at)) inner

  -- and in so many iterations
  abbrev pub results_in : List ActionTree → List ℕ → ℕ → List ValueTree
  results_in inner at n = flat_map (views_at inner) (iterations_at at n)

  abbrev pub result_views : List ActionTree → Spots → List ValueTree
  result_views inner spots = flat_map (views_at inner) (places_in spots)

-- what `result` gives of the container a, in whose graphs these actions stand in the order of their names
abbrev pub result_of : DefTree → List ℕ → List ℕ → Table Row → ActionTree → List ActionTree → Option ValueTree
result_of d loops at known a inner =
    let round = loops_of (graph_of d) (action_number a) in
    option_map (λ spots. list (trees (result_views known inner spots)))
    (spots_by d (take (common round loops) at) (beyond round loops ++ own_loop a) known)

-- ---- actions, by their names

-- seen from inside these loops, at these indexes
module _ (d : DefTree) (loops at : List ℕ) (known : Table Row) where
  abbrev pub view_by_loops : Option ActionTree → Option ValueTree
  view_by_loops None = None
  view_by_loops (Some a) =
      let round = loops_of (graph_of d) (action_number a) in
      option_and_then (view_in a known) (spots_by d (take (common round loops) at) (beyond round loops) known)

  abbrev pub view_from : List ℕ → Option ValueTree
  view_from k = view_by_loops (action_named d k)

  abbrev pub result_by_loops : Option ActionTree → Option ValueTree
  result_by_loops None = None
  result_by_loops (Some a) =
      let round = loops_of (graph_of d) (action_number a) in
      option_and_then
      (λ inner. option_map (result_in known inner)
      (spots_by d (take (common round loops) at) (beyond round loops ++ own_loop a) known))
      (first_level (action_kind a))

  abbrev pub result_from : List ℕ → Option ValueTree
  result_from k = result_by_loops (action_named d k)
