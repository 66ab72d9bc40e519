-- What makes the value of a record one of the form, said of the record: what a run has to show of what it leaves.
use Rattle.std.specs.Prelude.{◌≡◌, ◌<◌, ◌≤◌, ◌^◌, [], ◌∷◌, length, true, codes, ⊤}
use Rattle.std.specs.List.{AllByRecursion}
use Rattle.wf_asked.specs.Asked.{is_name}
use Rattle.wf_lists.specs.KeyOrder.{IsInKeyOrder}
use Rattle.hex.specs.Hex.{IsBytes}
use Rattle.wf_val.specs.Address.{address_cmp}
use Rattle.wf_val.specs.ValueTree.{ValueTree, null, text, object, members, MemberTrees, no_members, member_then, fits}
use Rattle.wf_record_form.specs.ReadBack.{IsOfForm}
use Rattle.wf_record.specs.Record.{RowTree, RecordTree, address_of}
use Rattle.wf_record.specs.declared.attempt.Try.{Try}

abbrev pub AllFit : MemberTrees → Type 0
AllFit no_members = ⊤
AllFit (member_then k t ms) = (fits t ≡ true) × AllFit ms

-- a value that is measured member by member where it is an object
abbrev pub IsMeasured : ValueTree → Type 0
IsMeasured (object ms) = AllFit ms
IsMeasured t = fits t ≡ true

abbrev pub IsTextOrNull : ValueTree → Type 0
IsTextOrNull null = ⊤
IsTextOrNull (text s) = ⊤
IsTextOrNull t = ⊥

abbrev pub IsTracked : ValueTree → Type 0
IsTracked null = ⊤
IsTracked (object ms) = AllFit ms
IsTracked t = ⊥

abbrev pub IsTry : Try → Type 0
IsTry (Try.Code n) = (100 ≤ n) × (n ≤ 599)
IsTry Try.NoConnection = ⊤
IsTry Try.TimedOut = ⊤
IsTry Try.NoAnswer = ⊤
IsTry Try.Unknown = ⊤

pub record IsFittingRow (r : RowTree) : Type 0 where
  pub at_in_range : AllByRecursion (λ n. n < 2 ^ 63) r.address.at
  pub name : is_name 80 (text r.address.name) ≡ true
  pub inputs : fits r.row.inputs ≡ true
  pub outputs : IsMeasured r.row.outputs
  pub error : IsTextOrNull r.row.error
  pub tracked : IsTracked r.row.tracked
  pub few : length r.row.attempts ≤ 91
  pub attempts : AllByRecursion IsTry r.row.attempts

pub record IsTriggerValue (t : ValueTree) : Type 0 where
  pub name : ValueTree
  pub outputs : ValueTree
  pub is : t ≡ object (members ((codes "name", name) ∷ (codes "outputs", outputs) ∷ []))
  pub named : IsTextOrNull name
  pub measured : IsMeasured outputs

pub record IsFittingRecord (r : RecordTree) : Type 0 where
  pub digest_length : length r.digest ≡ 32
  pub digest_bytes : IsBytes r.digest
  pub outputs : IsMeasured r.outputs
  pub parameters : AllFit (members r.parameters)
  pub response : IsMeasured r.response
  pub run : is_name 80 (text r.run) ≡ true
  pub trigger : IsTriggerValue r.trigger
  pub rows : AllByRecursion IsFittingRow r.rows
  pub in_order : IsInKeyOrder address_cmp address_of r.rows

abbrev pub FittingIsOfForm : RecordTree → Type 0
FittingIsOfForm r = IsFittingRecord r → IsOfForm r
