-- ROWS AS THE LAWS ASK FOR THEM, whether a run meant them or an older one left them, and sources by which they come about.
use Rattle.std.specs.Prelude.{◌≡◌, ℕ, Bool, true, false, List, None, Some}
use Rattle.wf_layers.specs.Address.{Address, Table}
use Rattle.wf_layers.specs.Resubmission.{kept}
use Rattle.wf_seen_laws.specs.DefTree.{DefTree}
use Rattle.wf_record.specs.Record.{Row}
use Rattle.wf_record.specs.declared.status.Status.TheVariants.{Succeeded}
use Rattle.wf_instance.specs.Environment.{Environment}
use Rattle.wf_instance.specs.Answering.{AnswersAs, RowSource, table_by}
use Rattle.wf_instance.specs.MeantVariables.{given_by}
use Rattle.wf_meant_laws.specs.Tables.{AreWhole}
use Rattle.wf_meant_laws.specs.Writers.{is_writer}

-- each row of an action that Succeeded gives each variable that the action writes a value
abbrev pub GiveWhatTheyWrite : DefTree → Table Row → Type 0
GiveWhatTheyWrite d rows =
    (v : List ℕ) (y : Address) (row : Row) → rows y ≡ Some row → is_writer d v y.name ≡ true → row.status ≡ Succeeded
    → given_by v row ≡ None → ⊥

-- each that isn't kept of an older run, where these are redone and these are closed again
abbrev pub NewGiveWhatTheyWrite : DefTree → (redo again : ℕ → Bool) → Table Row → Type 0
NewGiveWhatTheyWrite d redo again rows =
    (v : List ℕ) (y : Address) (row : Row) → rows y ≡ Some row → kept redo again y.name ≡ false → is_writer d v y.name ≡ true
    → row.status ≡ Succeeded → given_by v row ≡ None → ⊥

-- By this source the actions answer in the environment, and what it means is whole and gives what it writes.
pub record IsAnswered (d : DefTree) (e : Environment) (m : RowSource) : Type 0 where
  pub answers : AnswersAs d e m
  pub whole : AreWhole d (table_by d m)
  pub given : GiveWhatTheyWrite d (table_by d m)
