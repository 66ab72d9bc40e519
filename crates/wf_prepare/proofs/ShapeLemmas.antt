-- The rows of a record that fails nowhere have the right shape.
use Rattle.std.proofs.Common.{◌≡◌, Bool, false, List, [], None, refl, sym, subst}
use Rattle.wf_layers.specs.Definition as layers
use Rattle.wf_layers.specs.Shape.{HasShape}
use Rattle.wf_layers.specs.Source.{same_status}
use Rattle.wf_shape.specs.Law.{Idle, is_skipped_in}
use Rattle.wf_shape.specs.Standing.{fails}
use Rattle.wf_shape.proofs.RightShape.{has_right_shape}
use Rattle.wf_def.specs.ActionTree.{KindTree}
use Rattle.wf_def.specs.DefTree.{DefTree}
use Rattle.wf_record.specs.Record.{Row, RowTree}
use Rattle.wf_record.specs.declared.status.Status.{Status}
use Rattle.wf_shaped.specs.Environment.{Environment}
use Rattle.wf_shaped.specs.Statuses.{status_tree}
use Rattle.wf_shaped.specs.Points.{action_named, graph_of}
use Rattle.wf_shaped.specs.Resubmitted.{rows_by}
use Rattle.wf_shaped.specs.Source.{source}
use Rattle.wf_shaped.specs.Laws.{SkippedSaysNothing}
use Rattle.wf_shaped.specs.Says.{is_skipped, skips}
use Rattle.wf_shaped.specs.Reading.{reading}
use Rattle.wf_shaped.specs.Fits.{fits_in}
use Rattle.wf_shaped.specs.Failing.{IsLeastFailing}
use Rattle.wf_shaped.proofs.ExactLemmas.{AreKnown}
use Rattle.wf_prepare.proofs.FailingLemmas.{no_number_fails}
use Rattle.wf_prepare.proofs.IdleLemmas.{graph_idle}

-- the laws of order know of a row whether it is Skipped just as a record does
same_skipped : (s : Status) → same_status (status_tree s) layers.Skipped ≡ skips s
same_skipped Status.Succeeded = refl
same_skipped Status.Failed = refl
same_skipped Status.Skipped = refl
same_skipped Status.TimedOut = refl
same_skipped Status.Cancelled = refl

pub skipped_alike : (d : DefTree) (e : Environment) → is_skipped ≡ is_skipped_in (source d e)
skipped_alike d e = λ k row. sym (same_skipped row.status) k

module _ (d : DefTree) (known : AreKnown d) (says : (sort : _) (kind : KindTree) (r : Row) → SkippedSaysNothing sort kind r)
    (unnamed : action_named d [] ≡ None) (rows : List RowTree) (none : IsLeastFailing d rows None) where
  pub right_rows : (e : Environment) → HasShape (graph_of d) (source d e) (reading d) (rows_by d rows)
  right_rows e =
      has_right_shape (graph_of d) (source d e) (reading d) (fits_in d) (rows_by d rows) known.once (λ n. (refl, refl))
      (subst (λ (s : Row → Bool). Idle (reading d) s (fits_in d) (graph_of d)) (skipped_alike d e) (graph_idle d says d.top known.numbers))
      (λ y. subst (λ (s : Row → Bool). fails (reading d) s (fits_in d) (rows_by d rows) (graph_of d) y ≡ false) (skipped_alike d e)
      (no_number_fails d known unnamed rows none y))
