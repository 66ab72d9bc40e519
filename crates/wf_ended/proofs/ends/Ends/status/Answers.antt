use Rattle.std.proofs.Common.{◌∙◌}
use Rattle.wf_catalog.specs.ReadSeen.{def_tree}
use Rattle.wf_sight_laws.specs.Seen.{rows_seen}
use Rattle.wf_closing.specs.StepsSeen.{judged_tree}
use Rattle.wf_ended.proofs.TopLemmas.{top_status}
use Rattle.wf_ended.proofs.ends.Ends.status.Goals as goal

pub returns : goal.returns
returns c =
    let ends = c.args.self.now in
    let d = def_tree ends.checked.now.def in
    let read = c.always_read.ensures in
    let depths = c.actions_have_depths.ensures d read in
    c.in_ok-status.ensures
    ∙ top_status depths.0 (λ graph apart fall at known. c.steps_give_the_status.ensures graph depths.0 apart fall at known) d.top
    (c.numbers_stand_once.ensures d read) (c.entries_stay_in_their_graph.ensures d read) depths.1 (judged_tree ends.top) c.new.result
    (rows_seen c.args.rows.now.0) ends.judged c.new.ensures
