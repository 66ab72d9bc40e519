-- The laws, from what other crates promise of a definition that was read and breaks no rule.
use Rattle.std.proofs.Common.{◌≡◌, ℕ, ◌^◌, List, [], ◌∷◌, Option, Some, None, option_map, refl, arith}
use Rattle.std.specs.List.{AllByRecursion}
use Rattle.std.proofs.lemmas.Str.{IsUtf8-nil}
use Rattle.wf_first.specs.First.{first_broken}
use Rattle.wf_layers.specs.Address.{Table}
use Rattle.wf_answers.specs.Inputs.{InputsTree}
use Rattle.wf_def.specs.DefTree.{DefTree}
use Rattle.wf_pinned.specs.Broken.{broken_of, offences, rules_in_order}
use Rattle.wf_record.specs.Record.{RecordTree, Row, RowTree}
use Rattle.wf_record.specs.declared.attempt.Try.{Try}
use Rattle.wf_record_form.specs.Fitting.{IsFittingRecord, IsFittingRow, IsTry}
use Rattle.wf_record_form.specs.ReadBack.{IsInRange, IsRowInRange, IsTryInRange}
use Rattle.wf_environment.specs.Environment.{Environment}
use Rattle.wf_pinned.specs.Points.{graph_of}
use Rattle.wf_pinned.specs.Record.{depth_of, meaning}
use Rattle.wf_pinned.specs.Resubmitted.{pinned, pinned_table, resubmitted}
use Rattle.wf_pinned.specs.Source.{table_of}
use Rattle.wf_pinned.specs.Tables.{AreWhole}
use Rattle.wf_formed.specs.Formed.{IsFormedRow}
use Rattle.wf_formed.specs.Known.{IsKnown, Promised}
use Rattle.wf_formed.specs.Surroundings.{AreHandedIn, IsSurroundedBy}
use Rattle.wf_formed.proofs.AroundLemmas.{answers_again, answers_around, around_again, formed_around}
use Rattle.wf_formed.proofs.DigestLemmas.{digest_is_bytes, digest_length}
use Rattle.wf_formed.proofs.MeaningLemmas.{OfTable, TurnsSmall}
use Rattle.wf_formed.proofs.NameLemmas.{names_formed}
use Rattle.wf_formed.proofs.OrderLemmas.{AreKnown}
use Rattle.wf_formed.proofs.RangeLemmas.{turns_small}
use Rattle.wf_formed.proofs.RecordLemmas.{record_fits}
use Rattle.wf_formed.proofs.TableLemmas.{pinned_formed, table_formed}

none_of : {A B : Type 0} (f : A → B) (o : Option A) → option_map f o ≡ None → o ≡ None
none_of f None is = refl
none_of f (Some a) is = absurd (cc)

pub none_first : (d : DefTree) → broken_of d ≡ None → first_broken (offences d) rules_in_order ≡ None
none_first d none = none_of _ (first_broken (offences d) rules_in_order) none

module _ (promised : Promised) (d : DefTree) (facts : IsKnown d) where
  small : TurnsSmall (2 ^ 63) (graph_of d)
  small = turns_small d.top facts.ranges

  table_known : (known : Table Row) → AreWhole d known → OfTable (2 ^ 63) IsFormedRow known → AreKnown d known
  table_known known whole formed = record {
    placed = facts.placed;
    named = names_formed d facts.read facts.named;
    had = facts.had;
    stand = whole.instances;
    listed = facts.listed known whole;
    formed = formed;
  }

  -- THE LAW, of a run of its own
  pub meant_fits : (e : Environment) → IsSurroundedBy d e → AreWhole d (table_of d e (depth_of d)) → IsFittingRecord (meaning d e)
  unfolding meaning
  meant_fits e around whole =
      record_fits promised.values d e (table_of d e (depth_of d))
      (table_known (table_of d e (depth_of d)) whole
      (table_formed promised d e (answers_around IsUtf8-nil promised.templates d facts.parameters e around) (facts.few e) small))
      (formed_around IsUtf8-nil promised.templates d facts.parameters e around) (digest_length d facts.read) (digest_is_bytes d facts.read)

  -- THE LAW, of a resubmission
  pub pinned_fits : (r : RecordTree) (i : InputsTree) (from : List ℕ) → IsFittingRecord r → AreHandedIn i
      → AreWhole d (pinned_table d r i from) → IsFittingRecord (pinned d r i from)
  unfolding pinned
  pinned_fits r i from fit handed whole =
      record_fits promised.values d (resubmitted r i) (pinned_table d r i from)
      (table_known (pinned_table d r i from) whole
      (pinned_formed promised d r i from (answers_again IsUtf8-nil r i handed) (facts.few (resubmitted r i)) small fit.rows))
      (around_again IsUtf8-nil r i handed fit) (digest_length d facts.read) (digest_is_bytes d facts.read)

-- ---- what fits is in range

try_in_range : (t : Try) → IsTry t → IsTryInRange t
try_in_range (Try.Code n) is = omega (arith, is.1)
try_in_range Try.NoConnection is = tt
try_in_range Try.TimedOut is = tt
try_in_range Try.NoAnswer is = tt
try_in_range Try.Unknown is = tt

tries_in_range : (ts : List Try) → AllByRecursion IsTry ts → AllByRecursion IsTryInRange ts
tries_in_range [] all = tt
tries_in_range (t ∷ ts) all = (try_in_range t all.0, tries_in_range ts all.1)

rows_in_range : (rs : List RowTree) → AllByRecursion IsFittingRow rs → AllByRecursion IsRowInRange rs
rows_in_range [] all = tt
rows_in_range (r ∷ rs) all =
    (record { at_in_range = all.0.at_in_range; attempts = tries_in_range r.row.attempts all.0.attempts }, rows_in_range rs all.1)

pub fitting_in_range : (r : RecordTree) → IsFittingRecord r → IsInRange r
fitting_in_range r fit = record {
  digest_length = fit.digest_length;
  digest_bytes = fit.digest_bytes;
  rows_in_range = rows_in_range r.rows fit.rows;
}
