use Rattle.std.proofs.Common.{◌∙◌, None, List, ap, map}
use Rattle.wf_def.specs.ActionSeen.{action_tree}
use Rattle.wf_def.specs.ActionTree.{ActionTree, action_kind}
use Rattle.wf_def.specs.Layered.{layered_kind}
use Rattle.wf_def.specs.Names.{graph_names}
use Rattle.std.specs.Prelude.{length}
use Rattle.wf_sight_laws.proofs.KindLemmas.{kinds}
use Rattle.wf_order.specs.Table.{OrderTree}
use Rattle.wf_turns.specs.Points.{graph_of}
use Rattle.wf_turns.specs.Record.{depth_of}
use Rattle.wf_turns.specs.ReadSeen.{def_tree}
use Rattle.wf_record.specs.Seen.{record_tree}
use Rattle.wf_redo.specs.Sets.{again_any, redo_any}
use Rattle.wf_sight_laws.specs.Whole.{order_in}
use Rattle.wf_regained.specs.Reopened.{with_all_reopened}
use Rattle.wf_regained.proofs.FirstLemmas.{SameSets, first_opens}
use Rattle.wf_regained.proofs.regained.opens_again.Goals as goal

pub returns : goal.returns
returns c x =
    let d = def_tree c.args.checked.now.def in
    let g = graph_of d in
    let r = record_tree c.args.log.now in
    let from = c.args.from.now in
    let read = c.always_read.ensures in
    let once = c.numbers_stand_once.ensures d read in
    let same : SameSets d from (redo_any (order_in d) from) (again_any (order_in d) from) = λ y there.
    c.a_set_is_redone.ensures.as_resubmitted (length (graph_names d.top)) g (depth_of d) from (c.numbers_are_below.ensures d read) once
    (c.entries_stay_in_their_graph.ensures d read) (c.depths_are_how_many_are_before.ensures d read)
    c.requires.redone.present c.requires.redone.out_of_loops y there in
    c.in_ok-opens.ensures x
    ∙ ap (λ (o : OrderTree). with_all_reopened r.rows (again_any o from) (λ y. None) (map (λ a. action_tree a.now) c.args.actions.now) x)
    c.always_checked.ensures.ordered
    ∙ ap (λ (as' : List ActionTree). with_all_reopened r.rows (again_any (order_in d) from) (λ y. None) as' x) c.requires.all
    ∙ first_opens d r from (c.read_actions_have_their_numbers.ensures d read) (c.names_stand_once.ensures d read)
    (λ m. c.numbers_are_had.ensures d.top m) (redo_any (order_in d) from) (again_any (order_in d) from) same x
    (λ n a is. (layered_kind (action_kind a), kinds d once n a is))
