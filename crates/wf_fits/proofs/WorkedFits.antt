-- Ways, types of variables, and how instances stand, in a worked definition. A is a leaf; F is a Foreach of a Scope T of U; I is an If of
-- J, or else of K; V initialises the number x, and W sets it. Their numbers are their places in byte order.
use Rattle.std.proofs.Common.{◌≡◌, ℕ, pos, true, false, List, [], ◌∷◌, map, Some, None, refl}
use Rattle.std.specs.Prelude.{codes}
use Rattle.wf_layers.specs.Address.{address}
use Rattle.wf_val.specs.ValueTree.{ValueTree, null, boolean, number, text, list, object, trees, members}
use Rattle.wf_template.specs.CondTree.{CondTree}
use Rattle.wf_template.specs.DataTree.{DataTree}
use Rattle.wf_def.specs.ActionTree.{action, action_name, ActionTrees, KindTree, branch, foreach, initialize, no_actions, action_then, scope}
use Rattle.wf_def.specs.ActionTree.{set_to}
use Rattle.wf_def.specs.DefTree.{DefTree}
use Rattle.wf_def.specs.declared.sort.Sort.{Sort}
use Rattle.wf_record.specs.Record.{Row, RowTree}
use Rattle.wf_record.specs.declared.status.Status.{Status}
use Rattle.wf_shape.specs.Standing.{called, uncalled, unsaid}
use Rattle.wf_ways.specs.Way.{Step, branch_of, item, step, whole}
use Rattle.wf_fits.specs.Fits.{through, turns, entry_past, fits_in, stands_in, turn_of}
use Rattle.wf_fits.specs.Sorts.{sort_at, sort_of}
use Rattle.wf_fits.specs.Walk.{Walked, graph_walk}

abbrev pub one : List ℕ → ℕ → KindTree → ActionTrees → ActionTrees
one name n kind rest = action_then (action name n [] [] kind []) rest

abbrev pub row_at : List ℕ → List ℕ → Status → ValueTree → ValueTree → RowTree
row_at name at' status inputs outputs = record {
  address = record { name = name; at = at' };
  row = record { status = status; code = []; inputs = inputs; outputs = outputs; error = null; tracked = null; attempts = [] };
}

abbrev pub ran : List ℕ → List ℕ → RowTree
ran name at' = row_at name at' Status.Succeeded null null

abbrev pub idle : List ℕ → List ℕ → RowTree
idle name at' = row_at name at' Status.Skipped null null

-- the outputs of an action that sets x
abbrev pub set_x : ValueTree → ValueTree
set_x v = object (members ((codes "body", object (members ((codes "name", text (codes "x")) ∷ (codes "value", v) ∷ []))) ∷ []))

module _ (test : CondTree) (data' : DataTree) where
  abbrev pub leaf : KindTree
  leaf = initialize []

  abbrev pub top : ActionTrees
  top =
      one (codes "A") 0 leaf
      (one (codes "F") 1 (foreach data' 20 (one (codes "T") 5 (scope (one (codes "U") 6 leaf no_actions)) no_actions))
      (one (codes "I") 2 (branch test (one (codes "J") 3 leaf no_actions) (one (codes "K") 4 leaf no_actions))
      (one (codes "V") 7 (initialize (record { name = codes "x"; sort = Sort.Int; value = None } ∷ []))
      (one (codes "W") 8 (set_to (codes "x") data') no_actions))))

  abbrev pub worked : DefTree
  worked = record { digest = []; parameters = []; given = []; triggers = []; top = top; outputs = [] }

  -- ---- all actions, each with its way

  abbrev shown : Walked → List ℕ × List Step
  shown w = (action_name w.action, w.way)

  walk-worked : map shown (graph_walk [] top)
      ≡ (codes "A", []) ∷ (codes "F", []) ∷ (codes "T", step 1 item ∷ []) ∷ (codes "U", step 1 item ∷ step 5 whole ∷ [])
      ∷ (codes "I", []) ∷ (codes "J", step 2 (branch_of 1) ∷ []) ∷ (codes "K", step 2 (branch_of 2) ∷ []) ∷ (codes "V", [])
      ∷ (codes "W", []) ∷ []
  walk-worked = refl

  -- ---- types of variables

  sort-set : sort_at worked 8 ≡ Some Sort.Int
  sort-set = refl

  sort-initialised : sort_at worked 7 ≡ None
  sort-initialised = refl

  sort-no_action : sort_at worked 9 ≡ None
  sort-no_action = refl

  sort-no_variable : sort_of worked (codes "y") ≡ None
  sort-no_variable = refl

  -- ---- rows of one action

  abbrev set_row : ValueTree → Row
  set_row v = (row_at (codes "W") [] Status.Succeeded null (set_x v)).row

  fits-number : fits_in worked 8 false (set_row (number (pos 1))) ≡ true
  fits-number = refl

  fits-other_type : fits_in worked 8 false (set_row (boolean true)) ≡ false
  fits-other_type = refl

  fits-not_skipped : fits_in worked 8 true (set_row (number (pos 1))) ≡ false
  fits-not_skipped = refl

  fits-no_action : fits_in worked 9 false (set_row (number (pos 1))) ≡ false
  fits-no_action = refl

  -- ---- how instances stand: the Foreach had two items, of which the first was passed over, and the condition held

  abbrev pub rows : List RowTree
  rows =
      row_at (codes "F") [] Status.Succeeded (list (trees (null ∷ null ∷ []))) null
      ∷ row_at (codes "I") [] Status.Succeeded (boolean true) null
      ∷ idle (codes "T") (0 ∷ [])
      ∷ ran (codes "T") (1 ∷ [])
      ∷ []

  stands-top : stands_in worked rows (address 0 []) ≡ called false
  stands-top = refl

  stands-with_index : stands_in worked rows (address 0 (0 ∷ [])) ≡ uncalled
  stands-with_index = refl

  stands-iteration : stands_in worked rows (address 5 (1 ∷ [])) ≡ called false
  stands-iteration = refl

  stands-no_iteration : stands_in worked rows (address 5 (2 ∷ [])) ≡ uncalled
  stands-no_iteration = refl

  stands-no_index : stands_in worked rows (address 5 []) ≡ uncalled
  stands-no_index = refl

  stands-passed_over : stands_in worked rows (address 6 (0 ∷ [])) ≡ called true
  stands-passed_over = refl

  stands-inside : stands_in worked rows (address 6 (1 ∷ [])) ≡ called false
  stands-inside = refl

  stands-taken : stands_in worked rows (address 3 []) ≡ called false
  stands-taken = refl

  stands-not_taken : stands_in worked rows (address 4 []) ≡ called true
  stands-not_taken = refl

  stands-unsaid : stands_in worked [] (address 6 (1 ∷ [])) ≡ unsaid
  stands-unsaid = refl

  entry-loop : entry_past worked rows (step 1 item) false [] ≡ Some (turns 2)
  entry-loop = refl

  entry-skipped : entry_past worked rows (step 5 whole) false (0 ∷ []) ≡ Some (through true)
  entry-skipped = refl

  entry-missing : entry_past worked rows (step 5 whole) false (2 ∷ []) ≡ None
  entry-missing = refl

  turn-below : turn_of 2 (1 ∷ 7 ∷ []) ≡ Some (1, 7 ∷ [])
  turn-below = refl

  turn-at : turn_of 2 (2 ∷ []) ≡ None
  turn-at = refl
