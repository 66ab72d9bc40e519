-- What a resubmission of a record from actions of these names redoes, and what it closes again.
use Rattle.std.specs.Prelude.{◌≡◌, ℕ, Bool, true, List, Some, ◌⊎◌}
use Rattle.wf_layers.specs.Address.{Address, Table}
use Rattle.wf_layers.specs.Redo.{closed_again, redone}
use Rattle.wf_def.specs.DefTree.{DefTree}
use Rattle.wf_record.specs.Record.{RecordTree, Row}
use Rattle.wf_resubmit.specs.Refused.{numbers_of}
use Rattle.wf_resubmit.specs.declared.fault.ResubmitFault.{ResubmitFault}
use Rattle.wf_shaped.specs.Fits.{fits_in}
use Rattle.wf_shaped.specs.Points.{graph_of}
use Rattle.wf_shaped.specs.Record.{depth_of}
use Rattle.wf_shaped.specs.Resubmitted.{is_chosen}
use Rattle.wf_shaped.specs.Says.{is_skipped}
use Rattle.wf_prepare.specs.Prepared.{IsRefused, MayBeResubmitted}

module _ (d : DefTree) (names : List (List ℕ)) where
  -- the actions from which it is resubmitted
  abbrev pub from_names : List ℕ
  from_names = numbers_of d.top names

  abbrev pub is_redone : ℕ → Bool
  is_redone = redone (graph_of d) (depth_of d) (is_chosen from_names)

  abbrev pub is_closed_again : ℕ → Bool
  is_closed_again = closed_again (graph_of d) (depth_of d) (is_chosen from_names)

-- A record is refused, or it may be resubmitted.
abbrev pub OneOrTheOther : DefTree → RecordTree → List (List ℕ) → Type 0
OneOrTheOther d r names = ((f : ResubmitFault) × IsRefused d r names f) ⊎ MayBeResubmitted d r names

-- Each row is one that its action may have; where it is Skipped, also where a Skipped one is called for.
abbrev pub EachRowFits : DefTree → Table Row → Type 0
EachRowFits d rows =
    (y : Address) (row : Row) (skipped : Bool) → rows y ≡ Some row → (skipped ≡ true → is_skipped row ≡ true)
    → fits_in d y.name skipped row ≡ true
