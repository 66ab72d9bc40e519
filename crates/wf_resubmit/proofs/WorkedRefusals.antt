-- Why a worked run can't be resubmitted. A and Z are leaves; S is a Scope of B; L is a Foreach of M, an Until of C.
use Rattle.std.proofs.Common.{◌≡◌, ℕ, true, false, List, [], ◌∷◌, Option, Some, None, refl}
use Rattle.std.specs.Prelude.{codes}
use Rattle.wf_val.specs.ValueTree.{null}
use Rattle.wf_val.specs.declared.digest.Digest.{Digest}
use Rattle.wf_template.specs.CondTree.{CondTree}
use Rattle.wf_template.specs.DataTree.{DataTree}
use Rattle.wf_def.specs.ActionTree.{action, ActionTrees, KindTree, foreach, initialize, no_actions, action_then, scope, until}
use Rattle.wf_def.specs.Layered.{layered}
use Rattle.wf_loops.specs.Table.{OrderTree, order_of}
use Rattle.wf_record.specs.Record.{RowTree}
use Rattle.wf_record.specs.declared.status.Status.{Status}
use Rattle.wf_resubmit.specs.Least.{least_of}
use Rattle.wf_resubmit.specs.Refused.{numbers_of, refused}
use Rattle.wf_resubmit.specs.declared.fault.ResubmitFault.{ResubmitFault}

abbrev one : List ℕ → ℕ → KindTree → ActionTrees → ActionTrees
one name n kind rest = action_then (action name n [] [] kind []) rest

abbrev row_at : List ℕ → List ℕ → Status → RowTree
row_at name at' status = record {
  address = record { name = name; at = at' };
  row = record { status = status; code = []; inputs = null; outputs = null; error = null; tracked = null; attempts = [] };
}

abbrev row : List ℕ → Status → RowTree
row name status = row_at name [] status

abbrev digest : ℕ → Digest
digest n = record { bytes = n ∷ [] }

-- A Succeeded, S failed as B did, L was Skipped; of Z there is a row at an index alone
abbrev rows : List RowTree
rows =
    row (codes "A") Status.Succeeded
    ∷ row (codes "B") Status.Failed
    ∷ row (codes "L") Status.Skipped
    ∷ row (codes "S") Status.TimedOut
    ∷ row_at (codes "Z") (0 ∷ []) Status.Succeeded
    ∷ []

module _ (test : CondTree) (items : DataTree) where
  abbrev leaf : KindTree
  leaf = initialize []

  abbrev graph : ActionTrees
  graph =
      one (codes "A") 0 leaf
      (one (codes "L") 3 (foreach items 20 (one (codes "M") 4 (until test 3 false (one (codes "C") 2 leaf no_actions)) no_actions))
      (one (codes "S") 5 (scope (one (codes "B") 1 leaf no_actions))
      (one (codes "Z") 6 leaf no_actions)))

  abbrev order : OrderTree
  order = order_of 7 (layered graph)

  abbrev told : List (List ℕ) → Option ResubmitFault
  told names = refused graph order (digest 1) (digest 1) rows names

  abbrev told_of_another : List (List ℕ) → Option ResubmitFault
  told_of_another names = refused graph order (digest 1) (digest 2) rows names

  -- what failed has run, also a container
  fine : told (codes "B" ∷ codes "A" ∷ codes "S" ∷ []) ≡ None
  fine = refl

  fine-twice : told (codes "A" ∷ codes "A" ∷ []) ≡ None
  fine-twice = refl

  their_numbers : numbers_of graph (codes "B" ∷ codes "A" ∷ codes "B" ∷ []) ≡ 1 ∷ 0 ∷ 1 ∷ []
  their_numbers = refl

  -- the least of those that no action has
  no_action : told (codes "Y" ∷ codes "Q" ∷ codes "A" ∷ codes "X" ∷ []) ≡ Some (ResubmitFault.NoAction (codes "Q"))
  no_action = refl

  in_another_case : told (codes "a" ∷ []) ≡ Some (ResubmitFault.NoAction (codes "a"))
  in_another_case = refl

  -- names are asked for actions first
  no_action-first : told (codes "C" ∷ codes "Y" ∷ []) ≡ Some (ResubmitFault.NoAction (codes "Y"))
  no_action-first = refl

  -- the outermost loop round it
  in_loop : told (codes "C" ∷ []) ≡ Some (ResubmitFault.InLoop (codes "C") (codes "L"))
  in_loop = refl

  in_loop-a_loop : told (codes "M" ∷ []) ≡ Some (ResubmitFault.InLoop (codes "M") (codes "L"))
  in_loop-a_loop = refl

  in_loop-least : told (codes "M" ∷ codes "C" ∷ []) ≡ Some (ResubmitFault.InLoop (codes "C") (codes "L"))
  in_loop-least = refl

  -- a loop itself stands in none
  skipped : told (codes "L" ∷ []) ≡ Some (ResubmitFault.NotRun (codes "L"))
  skipped = refl

  in_loop-before_skipped : told (codes "L" ∷ codes "M" ∷ []) ≡ Some (ResubmitFault.InLoop (codes "M") (codes "L"))
  in_loop-before_skipped = refl

  no_row : told (codes "Z" ∷ []) ≡ Some (ResubmitFault.NotRun (codes "Z"))
  no_row = refl

  not_run-least : told (codes "Z" ∷ codes "L" ∷ codes "A" ∷ []) ≡ Some (ResubmitFault.NotRun (codes "L"))
  not_run-least = refl

  another : told_of_another (codes "A" ∷ []) ≡ Some (ResubmitFault.OtherDefinition (digest 2) (digest 1))
  another = refl

  not_run-before_another : told_of_another (codes "L" ∷ []) ≡ Some (ResubmitFault.NotRun (codes "L"))
  not_run-before_another = refl

-- bytes count, and a front of a name is below it
least-by_bytes : least_of (λ k. true) (codes "b" ∷ codes "aa" ∷ codes "a" ∷ codes "ab" ∷ []) ≡ Some (codes "a")
least-by_bytes = refl

least-capitals : least_of (λ k. true) (codes "a" ∷ codes "B" ∷ []) ≡ Some (codes "B")
least-capitals = refl

least-none : least_of (λ k. false) (codes "a" ∷ codes "B" ∷ []) ≡ None
least-none = refl
