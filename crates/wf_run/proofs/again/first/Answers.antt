use Rattle.std.proofs.Common.{[], None, ap, refl, subst, sym, ◌∙◌}
use Rattle.wf_answers.specs.InputsSeen.{inputs_tree}
use Rattle.wf_asks.specs.Known.{store_in, writer}
use Rattle.wf_environment.specs.Environment.{Environment}
use Rattle.wf_kept.specs.Reached.{IsAsResumed, IsResumption, resumption}
use Rattle.wf_layers.specs.Resubmission.{IsOldTable}
use Rattle.wf_layers.specs.Variables.{IsLastWritten}
use Rattle.wf_runnable.specs.Points.{graph_of}
use Rattle.wf_runnable.specs.Record.{depth_of}
use Rattle.wf_runnable.specs.Resubmitted.{pinned_source, recalled, resubmitted, rows_by}
use Rattle.wf_runnable.specs.Source as sources
use Rattle.wf_pinned.specs.Old.{recloses, redoes}
use Rattle.wf_plan.specs.PlanSeen.{plan_tree}
use Rattle.wf_record.specs.Record.{RecordTree}
use Rattle.wf_record.specs.Seen.{record_tree}
use Rattle.wf_resubmit.specs.Chosen.{MayBeRedone}
use Rattle.wf_runnable.specs.Writes as laws
use Rattle.wf_runnable.specs.Kept.{IsPlanned}
use Rattle.wf_runnable.specs.Seen.{rows_seen}
use Rattle.wf_runnable.specs.Meant.{source}
use Rattle.wf_runnable.specs.Over.{Moment, moment}
use Rattle.wf_runnable.specs.Runnable.{definition}
use Rattle.wf_run.proofs.again.first.Goals as goal

pub regain-requires-clause-placed : goal.regain-requires-clause-placed
regain-requires-clause-placed c = c.args.runnable.now.ready.now.placed ∙ ap (λ k. k.def) c.args.runnable.now.readied

pub regain-requires-clause-redone : goal.regain-requires-clause-redone
regain-requires-clause-redone c =
    let d = definition c.args.runnable.now.checked.now in
    let p = c.requires.may in
    subst (λ f. MayBeRedone (graph_of d) f) (sym p.from_is)
    (c.what_is_chosen_stands_in_no_loop.ensures d c.always_read.ensures (record_tree c.args.log.now) p.names p.may)

pub regain-requires-clause-shape : goal.regain-requires-clause-shape
regain-requires-clause-shape c =
    let p = c.requires.may in
    c.record_has_the_right_shape.ensures (definition c.args.runnable.now.checked.now) c.always_read.ensures (record_tree c.args.log.now)
    p.names p.may

pub regain-requires-clause-whole : goal.regain-requires-clause-whole
regain-requires-clause-whole c =
    let p = c.requires.may in
    c.kept_rows_are_whole.ensures (definition c.args.runnable.now.checked.now) c.always_read.ensures (record_tree c.args.log.now)
    p.names p.may

pub resumed-requires-clause-planned : goal.resumed-requires-clause-planned
resumed-requires-clause-planned c =
    let s = c.args.runnable.now in
    subst (λ q. IsPlanned (graph_of q) (plan_tree s.plan.now)) (sym c.requires.actions.definition)
    (subst (λ k. IsPlanned (graph_of (definition k)) (plan_tree s.plan.now)) (sym s.readied) c.is_planned.ensures)

pub resumed-requires-clause-resumed : goal.resumed-requires-clause-resumed
resumed-requires-clause-resumed c =
    let s = c.args.runnable.now in
    let d = definition s.checked.now in
    let r : RecordTree = record_tree c.args.log.now in
    let i = inputs_tree c.args.inputs.now in
    let from = c.args.from.now in
    let a = c.args.actions.now in
    let act = c.requires.actions in
    let p = c.requires.may in
    let e : Environment = resubmitted r i in
    let g = c.in_ok-rows.field-0 in
    let first : Moment = moment (g.rows.0, ([], (g.opens.0, g.store.0))) in
    let is : IsAsResumed (graph_of d) (redoes d from) (recloses d from) (rows_by d r.rows) (recalled d r.rows) first = record {
      rows = c.in_ok-rows.ensures.rows;
      running = λ x. refl;
      opens = c.in_ok-rows.ensures.opens;
    } in
    let own = c.a_definition_is_an_instance.ensures d c.always_read.ensures c.always_checked.ensures.holds e in
    let old : IsOldTable (graph_of d) (sources.source d e) (redoes d from) (recloses d from) (rows_by d r.rows) (recalled d r.rows) =
    subst (λ f. IsOldTable (graph_of d) (sources.source d e) (redoes d f) (recloses d f) (rows_by d r.rows) (recalled d r.rows))
    (sym p.from_is) (c.record_is_an_old_table.ensures d c.always_read.ensures r p.names p.may e) in
    let on : IsResumption (graph_of d) (depth_of d) (pinned_source d r i from) first =
    resumption (sources.source d e) (sources.source d e) (redoes d from) (recloses d from) (rows_by d r.rows) (recalled d r.rows) own.falls
    own.closed own.local old is in
    subst (λ q. IsResumption (graph_of q) (depth_of q) (source a) first) (sym act.definition)
    (subst (λ k. IsResumption (graph_of (definition k)) (depth_of (definition k)) (source a) first) (sym s.readied)
    (subst (λ m. IsResumption (graph_of d) (depth_of d) m first)
    (sym (act.by_source ∙ ap (λ k. pinned_source (definition k) r i from) s.readied)) on))

pub resumed-requires-clause-last : goal.resumed-requires-clause-last
resumed-requires-clause-last c = λ v.
    let s = c.args.runnable.now in
    let m = source c.args.actions.now in
    let g = c.in_ok-rows.field-0 in
    subst (λ q. IsLastWritten (graph_of q) m (writer (laws.writes q) v) (rows_seen g.rows.0) (store_in g.store.0 v))
    (sym (c.requires.actions.definition ∙ ap definition s.readied)) (c.in_ok-rows.ensures.last m v)

pub returns-clause-begins : goal.returns-clause-begins
returns-clause-begins c =
    ap moment c.in_ok-making.ensures.lists
    ∙ (λ k. record { rows = λ x. c.in_ok-rows.ensures.rows x k; running = λ x. None; opens = λ x. c.in_ok-rows.ensures.opens x k })
