-- Why a worked run can't be resubmitted: what is asked of the names, and what of the record. A is a leaf; F is a Foreach of a Scope T of U;
-- I is an If of J, or else of K. Their numbers are their places in byte order.
use Rattle.std.proofs.Common.{◌≡◌, ℕ, true, false, List, [], ◌∷◌, ◌++◌, flat_map, Option, Some, None, refl}
use Rattle.std.specs.Prelude.{codes}
use Rattle.wf_val.specs.ValueTree.{ValueTree, null, boolean, list, object, no_members, trees}
use Rattle.wf_val.specs.declared.address.Address.{Address}
use Rattle.wf_template.specs.CondTree.{CondTree}
use Rattle.wf_template.specs.DataTree.{DataTree}
use Rattle.wf_def.specs.ActionTree.{action, ActionTrees, KindTree, branch, foreach, initialize, no_actions, action_then, scope}
use Rattle.wf_def.specs.DefTree.{DefTree}
use Rattle.wf_record.specs.Record.{RecordTree, RowTree}
use Rattle.wf_record.specs.declared.status.RunStatus.{RunStatus}
use Rattle.wf_record.specs.declared.status.Status.{Status}
use Rattle.wf_resubmit.specs.declared.fault.ResubmitFault.{ResubmitFault}
use Rattle.wf_shaped.specs.Failing.{fails_at, missing_at_top_in, told_in}
use Rattle.wf_shaped.specs.Least.{least_from}
use Rattle.wf_prepare.specs.Old.{from_names, is_closed_again, is_redone}
use Rattle.wf_prepare.specs.Prepared.{IsRefused, digest_of, named, names_refused}

abbrev one : List ℕ → ℕ → KindTree → ActionTrees → ActionTrees
one name n kind rest = action_then (action name n [] [] kind []) rest

abbrev at : List ℕ → List ℕ → Address
at name i = record { name = name; at = i }

abbrev row_of : List ℕ → List ℕ → Status → ValueTree → RowTree
row_of name i status inputs = record {
  address = at name i;
  row = record { status = status; code = []; inputs = inputs; outputs = null; error = null; tracked = null; attempts = [] };
}

abbrev ran : List ℕ → List ℕ → RowTree
ran name i = row_of name i Status.Succeeded null

abbrev idle : List ℕ → List ℕ → RowTree
idle name i = row_of name i Status.Skipped null

abbrev left : List ℕ → List RowTree → RecordTree
left digest rows = record {
  run = codes "r";
  digest = digest;
  trigger = object no_members;
  parameters = [];
  status = RunStatus.Succeeded;
  error = null;
  response = null;
  outputs = object no_members;
  rows = rows;
}

module _ (test : CondTree) (data' : DataTree) where
  abbrev leaf : KindTree
  leaf = initialize []

  abbrev worked : DefTree
  worked = record {
    digest = 1 ∷ [];
    parameters = [];
    given = [];
    triggers = [];
    top = one (codes "A") 0 leaf
        (one (codes "F") 1 (foreach data' 20 (one (codes "T") 5 (scope (one (codes "U") 6 leaf no_actions)) no_actions))
        (one (codes "I") 2 (branch test (one (codes "J") 3 leaf no_actions) (one (codes "K") 4 leaf no_actions)) no_actions));
    outputs = [];
  }

  abbrev choice : List RowTree
  choice = row_of (codes "I") [] Status.Succeeded (boolean true) ∷ ran (codes "J") [] ∷ idle (codes "K") [] ∷ []

  abbrev loop : RowTree
  loop = row_of (codes "F") [] Status.Succeeded (list (trees (null ∷ [])))

  abbrev turn : List RowTree
  turn = ran (codes "T") (0 ∷ []) ∷ ran (codes "U") (0 ∷ []) ∷ []

  abbrev right : List RowTree
  right = ran (codes "A") [] ∷ loop ∷ choice ++ turn

  abbrev told : List RowTree → List (List ℕ) → Option ResubmitFault
  told rows names = names_refused worked (left (1 ∷ []) rows) names

  abbrev told_of_another : List RowTree → List (List ℕ) → Option ResubmitFault
  told_of_another rows names = names_refused worked (left (2 ∷ []) rows) names

  -- the least address that fails
  abbrev least : List RowTree → Option Address
  least rows = least_from None (missing_at_top_in worked rows ++ flat_map (told_in worked rows) rows)

  -- ---- a record that may be resubmitted

  names_fine : told right (codes "J" ∷ codes "A" ∷ codes "F" ∷ []) ≡ None
  names_fine = refl

  shape_fine : least right ≡ None
  shape_fine = refl

  their_numbers : from_names worked (codes "J" ∷ codes "A" ∷ []) ≡ 3 ∷ 0 ∷ []
  their_numbers = refl

  -- the If round J is closed again, and what comes after neither is kept
  redone-chosen : is_redone worked (codes "J" ∷ []) 3 ≡ true
  redone-chosen = refl

  redone-not_round : is_redone worked (codes "J" ∷ []) 2 ≡ false
  redone-not_round = refl

  closed-round : is_closed_again worked (codes "J" ∷ []) 2 ≡ true
  closed-round = refl

  closed-not_beside : is_closed_again worked (codes "J" ∷ []) 1 ≡ false
  closed-not_beside = refl

  redone-inside : is_redone worked (codes "F" ∷ []) 6 ≡ true
  redone-inside = refl

  -- ---- the names, in this order: no action, in a loop, not run, another definition

  no_action : told right (codes "Z" ∷ codes "U" ∷ codes "K" ∷ []) ≡ Some (ResubmitFault.NoAction (codes "Z"))
  no_action = refl

  in_loop : told right (codes "K" ∷ codes "U" ∷ []) ≡ Some (ResubmitFault.InLoop (codes "U") (codes "F"))
  in_loop = refl

  not_run : told right (codes "A" ∷ codes "K" ∷ []) ≡ Some (ResubmitFault.NotRun (codes "K"))
  not_run = refl

  not_run-first : told_of_another right (codes "K" ∷ []) ≡ Some (ResubmitFault.NotRun (codes "K"))
  not_run-first = refl

  another : told_of_another right (codes "A" ∷ []) ≡ Some (ResubmitFault.OtherDefinition (digest_of (2 ∷ [])) (digest_of (1 ∷ [])))
  another = refl

  -- and all of it before the shape
  names-first : told [] (codes "A" ∷ []) ≡ Some (ResubmitFault.NotRun (codes "A"))
  names-first = refl

  another-first : told_of_another (ran (codes "A") [] ∷ []) (codes "A" ∷ [])
      ≡ Some (ResubmitFault.OtherDefinition (digest_of (2 ∷ [])) (digest_of (1 ∷ [])))
  another-first = refl

  shape-later : told (ran (codes "A") [] ∷ []) (codes "A" ∷ []) ≡ None
  shape-later = refl

  -- so of a record that fails, too, the names' fault is the one that is told
  refused-names_first : IsRefused worked (left (1 ∷ []) []) (codes "A" ∷ []) (ResubmitFault.NotRun (codes "A"))
  refused-names_first = named refl

  refused-fails_too : least [] ≡ Some (at (codes "A") [])
  refused-fails_too = refl

  -- ---- forged records

  row-less : least (ran (codes "A") [] ∷ loop ∷ choice ++ (ran (codes "T") (0 ∷ []) ∷ [])) ≡ Some (at (codes "U") (0 ∷ []))
  row-less = refl

  row-more : least (right ++ (ran (codes "U") (1 ∷ []) ∷ [])) ≡ Some (at (codes "U") (1 ∷ []))
  row-more = refl

  row-unknown : least (right ++ (ran (codes "Z") [] ∷ [])) ≡ Some (at (codes "Z") [])
  row-unknown = refl

  status-another :
      least (ran (codes "A") [] ∷ loop
      ∷ (row_of (codes "I") [] Status.Succeeded (boolean true) ∷ ran (codes "J") [] ∷ ran (codes "K") [] ∷ []) ++ turn)
      ≡ Some (at (codes "K") [])
  status-another = refl

  status-skipped : least (ran (codes "A") [] ∷ row_of (codes "F") [] Status.Skipped (list (trees (null ∷ []))) ∷ choice ++ turn)
      ≡ Some (at (codes "F") [])
  status-skipped = refl

  decision-another :
      least (ran (codes "A") [] ∷ loop
      ∷ (row_of (codes "I") [] Status.Succeeded (boolean false) ∷ ran (codes "J") [] ∷ idle (codes "K") [] ∷ []) ++ turn)
      ≡ Some (at (codes "J") [])
  decision-another = refl

  decision-longer : least (ran (codes "A") [] ∷ row_of (codes "F") [] Status.Succeeded (list (trees (null ∷ null ∷ []))) ∷ choice ++ turn)
      ≡ Some (at (codes "T") (1 ∷ []))
  decision-longer = refl

  at_one-fails : fails_at worked (ran (codes "A") [] ∷ []) (at (codes "F") []) ≡ true
  at_one-fails = refl

  at_one-fine : fails_at worked right (at (codes "U") (0 ∷ [])) ≡ false
  at_one-fine = refl
