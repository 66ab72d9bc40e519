-- A schedule leads a resubmission to one list of events, by which all is told; and why there is none is one thing.
use Rattle.std.proofs.Common.{◌≡◌, ℕ, ◌<◌, ◌≤◌, Bool, List, [], Option, None, Some, length, refl, sym, ap, ◌∙◌, subst, arith}
use Rattle.std.specs.Prelude.{◌≢◌}
use Rattle.wf_layers.specs.Laws.{IsInstance}
use Rattle.wf_layers.specs.Machine.{Event}
use Rattle.wf_layers.specs.Redo.{closed_again, redone}
use Rattle.wf_layers.specs.Resubmission.{IsOldTable}
use Rattle.wf_kept.specs.Reached.{IsReached, resumed}
use Rattle.wf_scheduled.specs.Counts.{peak}
use Rattle.wf_scheduled.proofs.TurnLemmas.{one_run}
use Rattle.wf_def.specs.DefTree.{DefTree}
use Rattle.wf_answers.specs.Inputs.{InputsTree}
use Rattle.wf_record.specs.Cost.{cost}
use Rattle.wf_record.specs.Record.{RecordTree}
use Rattle.wf_prepare.specs.Points.{graph_of}
use Rattle.wf_prepare.specs.Record.{depth_of}
use Rattle.wf_prepare.specs.Resubmitted.{is_chosen, pinned, pinned_source, recalled, resubmitted, rows_by}
use Rattle.wf_prepare.specs.Source.{source}
use Rattle.wf_prepare.specs.Refused.{numbers_of}
use Rattle.wf_prepare.specs.ResubmitFault.{ResubmitFault}
use Rattle.wf_prepare.specs.Prepared.{IsRefused, MayBeResubmitted, misshapen, named, names_refused}
use Rattle.wf_told.specs.Resubmissions.{IsNotResubmitted, IsResubmittedUnder, TellsResubmission, refused, resumed_state, too_large}
use Rattle.wf_told.specs.Text.{run_text}
use Rattle.wf_told.specs.Under.{Told}
use Rattle.wf_told.specs.declared.fault.ResubmissionFault.{ResubmissionFault}
use Rattle.wf_told.proofs.AlikeLemmas.{same_parts}

module _ (d : DefTree) (r : RecordTree) (i : InputsTree) (from schedule : List ℕ) where
  -- what is told of a resubmission that has these events
  abbrev told_by : List Event → Told
  told_by es = record { events = []; left = pinned d r i from; steps = length es; peak = peak es }

  told_is : (t : Told) (u : IsResubmittedUnder d r i from schedule t) → t ≡ told_by u.events
  told_is t u = same_parts t.events [] t.left (pinned d r i from) t.steps (length u.events) t.peak (peak u.events) u.lines_are u.left_is
      u.steps_are u.peak_is

  -- the definition's source with the new inputs, and what the old rows are to it
  abbrev pub IsOld : Type 0
  IsOld =
      IsOldTable (graph_of d) (source d (resubmitted r i)) (redone (graph_of d) (depth_of d) (is_chosen from))
      (closed_again (graph_of d) (depth_of d) (is_chosen from)) (rows_by d r.rows) (recalled d r.rows)

  abbrev pub IsSound : Type 0
  IsSound = IsInstance (graph_of d) (source d (resubmitted r i)) (depth_of d)

  reached : IsSound → IsOld → IsReached (graph_of d) (depth_of d) (pinned_source d r i from) (resumed_state d r from)
  reached sound old =
      resumed (source d (resubmitted r i)) (source d (resubmitted r i)) (redone (graph_of d) (depth_of d) (is_chosen from))
      (closed_again (graph_of d) (depth_of d) (is_chosen from)) (rows_by d r.rows) (recalled d r.rows) [] sound.falls sound.closed
      sound.local old refl

  pub resubmitted_alike : IsSound → IsOld → (t u : Told) → IsResubmittedUnder d r i from schedule t
      → IsResubmittedUnder d r i from schedule u → t ≡ u
  resubmitted_alike sound old t u one other =
      let same = one_run (graph_of d) (pinned_source d r i from) schedule (depth_of d) (resumed_state d r from) (reached sound old)
      one.events other.events one.run other.run in
      told_is t one ∙ ap told_by same ∙ sym (told_is u other)

module _ (d : DefTree) (r : RecordTree) (names : List (List ℕ)) (i : InputsTree) where
  pub one_text : (schedule : List ℕ) → IsSound d r i (numbers_of d.top names) schedule → IsOld d r i (numbers_of d.top names) schedule
      → (text other : List ℕ) → TellsResubmission d r names i schedule text → TellsResubmission d r names i schedule other → text ≡ other
  one_text schedule sound old text other first second =
      first.text_is
      ∙ ap run_text (resubmitted_alike d r i (numbers_of d.top names) schedule sound old first.run second.run first.told second.told)
      ∙ sym second.text_is

  -- ---- why there is none

  -- refusals are one, and none stands where the record may be resubmitted
  abbrev pub OneRefusal : Type 0
  OneRefusal = (f g : ResubmitFault) → IsRefused d r names f → IsRefused d r names g → f ≡ g

  abbrev pub NoRefusal : Type 0
  NoRefusal = (f : ResubmitFault) → MayBeResubmitted d r names → IsRefused d r names f → ⊥

  module _ (one : OneRefusal) (none : NoRefusal) where
    pub one_fault : (f g : ResubmissionFault) → IsNotResubmitted d r names i f → IsNotResubmitted d r names i g → f ≡ g
    one_fault _ _ (refused {f = f} first) (refused {f = g} second) = ap ResubmissionFault.Refused (one f g first second)
    one_fault _ _ (refused {f = f} first) (too_large may over) = absurd (none f may first)
    one_fault _ _ (too_large may over) (refused {f = g} second) = absurd (none g may second)
    one_fault _ _ (too_large may over) (too_large may' over') = refl

    small_over : (schedule text : List ℕ) → TellsResubmission d r names i schedule text
        → 67108864 < cost (pinned d r i (numbers_of d.top names)) → ⊥
    small_over schedule text tells over =
        let small : cost (pinned d r i (numbers_of d.top names)) ≤ 67108864 =
        subst (λ left. cost left ≤ 67108864) tells.told.left_is tells.small in
        omega (arith, small, over)

    pub no_fault : (schedule text : List ℕ) (f : ResubmissionFault) → TellsResubmission d r names i schedule text
        → IsNotResubmitted d r names i f → ⊥
    no_fault schedule text _ tells (refused {f = f} is) = none f tells.may is
    no_fault schedule text _ tells (too_large may over) = small_over schedule text tells over

    pub nothing_against : (f : ResubmissionFault) → MayBeResubmitted d r names
        → cost (pinned d r i (numbers_of d.top names)) ≤ 67108864 → IsNotResubmitted d r names i f → ⊥
    nothing_against _ may small (refused {f = f} is) = none f may is
    nothing_against _ may small (too_large may' over) = omega (arith, small, over)

  pub never_memory : IsNotResubmitted d r names i ResubmissionFault.Memory → ⊥
  never_memory is = elim is [ ]
