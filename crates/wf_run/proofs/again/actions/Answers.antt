use Rattle.std.proofs.Common.{sym, subst}
use Rattle.wf_answers.specs.InputsSeen.{inputs_tree}
use Rattle.wf_environment.specs.Environment.{fresh}
use Rattle.wf_layers.specs.Resubmission.{IsOldTable}
use Rattle.wf_runnable.specs.Points.{graph_of}
use Rattle.wf_runnable.specs.Resubmitted.{pinned_source, recalled, resubmitted, rows_by}
use Rattle.wf_runnable.specs.Source.{source}
use Rattle.wf_pinned.specs.Answered.{IsAnswered}
use Rattle.wf_pinned.specs.Old.{MayGoOn, recloses, redoes}
use Rattle.wf_record.specs.Record.{RecordTree}
use Rattle.wf_record.specs.Seen.{record_tree}
use Rattle.wf_environment.specs.Starts.{StartTree}
use Rattle.wf_environment.specs.StartsSeen.{start_tree}
use Rattle.wf_runnable.specs.Runnable.{definition}
use Rattle.wf_run.proofs.again.actions.Goals as goal

pub resumed-requires : goal.resumed-requires
resumed-requires c =
    let d = definition c.args.runnable.now.checked.now in
    let r : RecordTree = record_tree c.args.log.now in
    let i = inputs_tree c.args.inputs.now in
    let from = c.args.from.now in
    let p = c.requires.may in
    let read = c.always_read.ensures in
    let on : MayGoOn d r i from = record {
      whole = c.kept_rows_are_whole.ensures d read r p.names p.may;
      given = c.kept_rows_give_what_they_write.ensures d read r p.names p.may;
      table =
          subst (λ f. IsOldTable (graph_of d) (source d (resubmitted r i)) (redoes d f) (recloses d f) (rows_by d r.rows) (recalled d r.rows))
          (sym p.from_is) (c.record_is_an_old_table.ensures d read r p.names p.may (resubmitted r i));
    } in
    let answered = c.a_resubmission_is_answered.ensures d read c.always_checked.ensures.holds r i from on in
    subst (λ k. IsAnswered (definition k) (fresh (start_tree c.args.start.now) i) (pinned_source (definition k) r i from))
    (sym c.args.runnable.now.readied)
    (subst (λ (s : StartTree). IsAnswered d (fresh s i) (pinned_source d r i from)) (sym c.requires.start) answered)
