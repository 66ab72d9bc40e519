use Rattle.std.proofs.Common.{◌≡◌, ℕ, Bool, None, List, ap, map, ◌∙◌, arith}
use Rattle.std.specs.Prelude.{length}
use Rattle.wf_def.specs.ActionSeen.{action_tree}
use Rattle.wf_def.specs.Names.{graph_names}
use Rattle.wf_layers.specs.Resubmission.{kept}
use Rattle.wf_lists.proofs.KeyOrderLemmas.{in_order-map}
use Rattle.wf_order.specs.Table.{OrderTree}
use Rattle.wf_turns.specs.Points.{graph_of}
use Rattle.wf_turns.specs.Record.{depth_of}
use Rattle.wf_paths.specs.Table.{from as at_places, slot}
use Rattle.wf_turns.specs.ReadSeen.{def_tree}
use Rattle.wf_turns.specs.Def.{Def}
use Rattle.wf_record.specs.Record.{address_of}
use Rattle.wf_record.specs.Seen.{record_tree, row_tree}
use Rattle.wf_record.specs.declared.row.Row.{Row}
use Rattle.wf_redo.specs.Sets.{again_any, redo_any}
use Rattle.wf_sight_laws.specs.Whole.{order_in}
use Rattle.wf_val.specs.Address.{address_cmp}
use Rattle.wf_regained.specs.Kept.{with_all_kept}
use Rattle.wf_regained.proofs.FirstLemmas.{SameSets, as_many, first_rows, some_environment}
use Rattle.wf_regained.proofs.regained.rows_kept.Goals as goal

pub returns : goal.returns
returns c x =
    let d = def_tree c.args.checked.now.def in
    let g = graph_of d in
    let r = record_tree c.args.log.now in
    let from = c.args.from.now in
    let n = length (graph_names d.top) in
    let read = c.always_read.ensures in
    let once = c.numbers_stand_once.ensures d read in
    let below = c.numbers_are_below.ensures d read in
    let same : SameSets d from (redo_any (order_in d) from) (again_any (order_in d) from) = λ y there.
    c.a_set_is_redone.ensures.as_resubmitted n g (depth_of d) from below once
    (c.entries_stay_in_their_graph.ensures d read) (c.depths_are_how_many_are_before.ensures d read)
    c.requires.redone.present c.requires.redone.out_of_loops y there in
    let here : c.in-Ok.count ≡ length c.args.actions.now = omega arith in
    let counted : c.in-Ok.count ≡ n = here ∙ as_many d (λ a. action_tree a.now) c.args.actions.now c.requires.all in
    c.in_ok-rows.ensures x
    ∙ ap (λ (rs : List Row). with_all_kept (def_tree c.args.places.now) (slot c.deref.result.now) (λ y. None) (map row_tree rs) x)
    c.as_slice.ensures.items
    ∙ ap (λ (q : Def). with_all_kept (def_tree q) (slot c.deref.result.now) (λ y. None) r.rows x) c.requires.placed
    ∙ ap (λ (bs : List Bool). with_all_kept d (slot bs) (λ y. None) r.rows x) (c.deref.ensures.value ∙ c.in_ok-kept.ensures)
    ∙ ap (λ (o : OrderTree). with_all_kept d (slot (at_places 0 c.in-Ok.count (kept (redo_any o from) (again_any o from)))) (λ y. None)
    r.rows x) c.always_checked.ensures.ordered
    ∙ ap (λ (m : ℕ). with_all_kept d (slot (at_places 0 m (kept (redo_any (order_in d) from) (again_any (order_in d) from)))) (λ y. None)
    r.rows x) counted
    ∙ first_rows d r from (c.read_actions_have_their_numbers.ensures d read) (c.names_stand_once.ensures d read)
    (λ m. c.numbers_are_had.ensures d.top m) (redo_any (order_in d) from) (again_any (order_in d) from) same x
    (in_order-map address_cmp address_of row_tree c.args.log.now.rows c.as_slice.ensures.in_order)
    (λ y off. (c.requires.shape some_environment).outside y off) n (λ y has. below y has)
