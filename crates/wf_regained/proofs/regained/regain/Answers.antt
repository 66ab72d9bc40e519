use Rattle.std.proofs.Common.{◌≡◌, ℕ, List, subst}
use Rattle.wf_asks.specs.Known.{opens_in}
use Rattle.wf_opening.specs.DecisionSeen.{decision_tree, verdict_tree}
use Rattle.wf_regained.specs.First.{first_state}
use Rattle.wf_layers.specs.Redo.{closed_again, redone}
use Rattle.wf_layers.specs.Resubmission.{kept}
use Rattle.wf_turns.specs.Points.{graph_of}
use Rattle.wf_turns.specs.Record.{depth_of}
use Rattle.wf_turns.specs.Resubmitted.{is_chosen, rows_by}
use Rattle.wf_turns.specs.Source.{source}
use Rattle.wf_turns.specs.ReadSeen.{def_tree}
use Rattle.wf_record.specs.Seen.{record_tree}
use Rattle.wf_sight_laws.specs.Seen.{rows_seen}
use Rattle.wf_regained.proofs.FirstLemmas.{some_environment}
use Rattle.wf_regained.proofs.LineLemmas.{kept_line}
use Rattle.wf_regained.proofs.regained.regain.Goals as goal

pub store_of-requires-clause-in_line : goal.store_of-requires-clause-in_line
store_of-requires-clause-in_line c =
    let d = def_tree c.args.checked.now.def in
    let e = some_environment in
    let rows = rows_by d (record_tree c.args.log.now).rows in
    let chosen = is_chosen c.as_slice.result.now in
    kept_line d e rows (c.requires.shape e)
    (λ v. c.numbered_writers_are_in_one_order.ensures.writers d c.always_read.ensures c.always_checked.ensures.holds e (source d e)
    (c.a_definition_is_answered.ensures d c.always_read.ensures c.always_checked.ensures.holds e).answers rows c.requires.whole.instances v)
    (kept (redone (graph_of d) (depth_of d) chosen) (closed_again (graph_of d) (depth_of d) chosen)) (rows_seen c.in_ok-rows.rows.0)
    (λ x. c.in_ok-rows.ensures x)

pub returns-clause-rows : goal.returns-clause-rows
returns-clause-rows c x =
    subst (λ (ns : List ℕ). rows_seen c.in_ok-rows.rows.0 x
    ≡ (first_state (def_tree c.args.checked.now.def) (record_tree c.args.log.now) ns).rows x) c.as_slice.ensures (c.in_ok-rows.ensures x)

pub returns-clause-opens : goal.returns-clause-opens
returns-clause-opens c x =
    subst (λ (ns : List ℕ). opens_in decision_tree verdict_tree c.in_ok-opens.opens.0 x
    ≡ (first_state (def_tree c.args.checked.now.def) (record_tree c.args.log.now) ns).opens x) c.as_slice-2.ensures
    (c.in_ok-opens.ensures x)
