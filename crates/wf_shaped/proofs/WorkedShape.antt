-- Where worked records haven't the right shape. A is a leaf; F is a Foreach of a Scope T of U; I is an If of J, or else of K. Their numbers
-- are their places in byte order.
use Rattle.std.proofs.Common.{◌≡◌, ℕ, true, false, List, [], ◌∷◌, ◌++◌, flat_map, Option, Some, None, refl}
use Rattle.std.specs.Prelude.{codes}
use Rattle.wf_val.specs.ValueTree.{ValueTree, null, boolean, text, list, trees}
use Rattle.wf_val.specs.declared.address.Address.{Address}
use Rattle.wf_template.specs.CondTree.{CondTree}
use Rattle.wf_template.specs.DataTree.{DataTree}
use Rattle.wf_def.specs.ActionTree.{action, ActionTrees, KindTree, branch, foreach, initialize, no_actions, action_then, scope}
use Rattle.wf_def.specs.DefTree.{DefTree}
use Rattle.wf_record.specs.Record.{RowTree}
use Rattle.wf_record.specs.declared.status.Status.{Status}
use Rattle.wf_shaped.specs.Failing.{fails_at, missing_at_top_in, told_in}
use Rattle.wf_shaped.specs.Least.{is_below, is_under, least_from}

abbrev one : List ℕ → ℕ → KindTree → ActionTrees → ActionTrees
one name n kind rest = action_then (action name n [] [] kind []) rest

abbrev at : List ℕ → List ℕ → Address
at name i = record { name = name; at = i }

abbrev row_of : List ℕ → List ℕ → Status → ValueTree → RowTree
row_of name i status inputs = record {
  address = at name i;
  row = record { status = status; code = []; inputs = inputs; outputs = null; error = null; tracked = null; attempts = [] };
}

abbrev ran : List ℕ → List ℕ → RowTree
ran name i = row_of name i Status.Succeeded null

abbrev idle : List ℕ → List ℕ → RowTree
idle name i = row_of name i Status.Skipped null

-- ---- the order of addresses

below-index : is_below (at (codes "A") (1 ∷ [])) (Some (at (codes "A") (2 ∷ []))) ≡ true
below-index = refl

below-itself : is_below (at (codes "A") []) (Some (at (codes "A") [])) ≡ false
below-itself = refl

under-name : is_under (Some (at (codes "A") (9 ∷ []))) (codes "B") ≡ true
under-name = refl

under-same_name : is_under (Some (at (codes "A") [])) (codes "A") ≡ false
under-same_name = refl

least-later : least_from None (at (codes "B") [] ∷ at (codes "A") (0 ∷ []) ∷ at (codes "A") (1 ∷ []) ∷ []) ≡ Some (at (codes "A") (0 ∷ []))
least-later = refl

module _ (test : CondTree) (data' : DataTree) where
  abbrev leaf : KindTree
  leaf = initialize []

  abbrev worked : DefTree
  worked = record {
    digest = [];
    parameters = [];
    given = [];
    triggers = [];
    top = one (codes "A") 0 leaf
        (one (codes "F") 1 (foreach data' 20 (one (codes "T") 5 (scope (one (codes "U") 6 leaf no_actions)) no_actions))
        (one (codes "I") 2 (branch test (one (codes "J") 3 leaf no_actions) (one (codes "K") 4 leaf no_actions)) no_actions));
    outputs = [];
  }

  abbrev least : List RowTree → Option Address
  least rows = least_from None (missing_at_top_in worked rows ++ flat_map (told_in worked rows) rows)

  -- the Foreach had two items, of which the first was passed over, and the condition held
  abbrev loop : List RowTree
  loop = ran (codes "A") [] ∷ row_of (codes "F") [] Status.Succeeded (list (trees (null ∷ null ∷ []))) ∷ []

  abbrev choice : List RowTree
  choice = row_of (codes "I") [] Status.Succeeded (boolean true) ∷ ran (codes "J") [] ∷ idle (codes "K") [] ∷ []

  abbrev turns : List RowTree
  turns = idle (codes "T") (0 ∷ []) ∷ ran (codes "T") (1 ∷ []) ∷ idle (codes "U") (0 ∷ []) ∷ ran (codes "U") (1 ∷ []) ∷ []

  right : least (loop ++ choice ++ turns) ≡ None
  right = refl

  nothing-there : least [] ≡ Some (at (codes "A") [])
  nothing-there = refl

  branch-missing : least (loop ++ (row_of (codes "I") [] Status.Succeeded (boolean true) ∷ ran (codes "J") [] ∷ []) ++ turns)
      ≡ Some (at (codes "K") [])
  branch-missing = refl

  branch-not_skipped :
      least (loop ++ (row_of (codes "I") [] Status.Succeeded (boolean false) ∷ ran (codes "J") [] ∷ ran (codes "K") [] ∷ []) ++ turns)
      ≡ Some (at (codes "J") [])
  branch-not_skipped = refl

  -- inside what is wrong nothing is judged
  choice-wrong : least (loop ++ (row_of (codes "I") [] Status.Succeeded (text (codes "x")) ∷ ran (codes "K") [] ∷ []) ++ turns)
      ≡ Some (at (codes "I") [])
  choice-wrong = refl

  iteration-missing : least (loop ++ choice ++ (idle (codes "T") (0 ∷ []) ∷ idle (codes "U") (0 ∷ []) ∷ []))
      ≡ Some (at (codes "T") (1 ∷ []))
  iteration-missing = refl

  iteration-surplus : least (loop ++ choice ++ turns ++ (ran (codes "U") (2 ∷ []) ∷ [])) ≡ Some (at (codes "U") (2 ∷ []))
  iteration-surplus = refl

  index-surplus : least ((ran (codes "A") [] ∷ ran (codes "A") (0 ∷ []) ∷ []) ++ choice) ≡ Some (at (codes "A") (0 ∷ []))
  index-surplus = refl

  inside-not_skipped : least (loop ++ choice
      ++ (idle (codes "T") (0 ∷ []) ∷ ran (codes "T") (1 ∷ []) ∷ ran (codes "U") (0 ∷ []) ∷ ran (codes "U") (1 ∷ []) ∷ []))
      ≡ Some (at (codes "U") (0 ∷ []))
  inside-not_skipped = refl

  no_action : least (loop ++ choice ++ turns ++ (ran (codes "Z") [] ∷ [])) ≡ Some (at (codes "Z") [])
  no_action = refl

  -- at single addresses
  fails-surplus : fails_at worked (loop ++ choice ++ turns ++ (ran (codes "Z") [] ∷ [])) (at (codes "Z") []) ≡ true
  fails-surplus = refl

  fails-unsaid : fails_at worked [] (at (codes "J") []) ≡ false
  fails-unsaid = refl

  fails-no_row : fails_at worked [] (at (codes "Z") []) ≡ false
  fails-no_row = refl
