-- WHETHER A RUN CAN BE RESUBMITTED from actions of these names: the names are asked first, in the order that `wf_resubmit` says, and then
-- the record for its shape.
use Rattle.std.specs.Prelude.{◌≡◌, ℕ, List, Option, Some, None}
use Rattle.wf_val.specs.declared.address.Address.{Address}
use Rattle.wf_val.specs.declared.digest.Digest.{Digest}
use Rattle.wf_def.specs.DefTree.{DefTree}
use Rattle.wf_meant_laws.specs.Whole.{order_in}
use Rattle.wf_record.specs.Record.{RecordTree, RowTree}
use Rattle.wf_resubmit.specs.Refused.{refused}
use Rattle.wf_resubmit.specs.declared.fault.ResubmitFault.{ResubmitFault}
use Rattle.wf_shaped.specs.Failing.{IsLeastFailing}

abbrev pub digest_of : List ℕ → Digest
digest_of bytes = record { bytes = bytes }

-- why the names are refused, if they are
abbrev pub names_refused : DefTree → RecordTree → List (List ℕ) → Option ResubmitFault
names_refused d r names = refused d.top (order_in d) (digest_of d.digest) (digest_of r.digest) r.rows names

-- The record fails at that address, and at none that is less.
pub data IsMisshapen (d : DefTree) (rows : List RowTree) : ResubmitFault → Type 0 where
  fails_first : {a : Address} → IsLeastFailing d rows (Some a) → IsMisshapen d rows (ResubmitFault.Shape a)

module _ (d : DefTree) (r : RecordTree) (names : List (List ℕ)) where
  -- The names are refused; or they aren't, and the record is misshapen.
  pub data IsRefused : ResubmitFault → Type 0 where
    named : {f : ResubmitFault} → names_refused d r names ≡ Some f → IsRefused f
    misshapen : {a : Address} → names_refused d r names ≡ None → IsLeastFailing d r.rows (Some a) → IsRefused (ResubmitFault.Shape a)

  -- THE RECORD MAY BE RESUBMITTED from the names: they aren't refused, and it fails nowhere.
  pub record MayBeResubmitted : Type 0 where
    pub accepted : names_refused d r names ≡ None
    pub shape : IsLeastFailing d r.rows None
