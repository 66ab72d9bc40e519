use Rattle.std.proofs.Common.{refl}
use Rattle.wf_layers.proofs.Shaped.{shaped_is_old_table}
use Rattle.wf_shaped.specs.Points.{graph_of}
use Rattle.wf_shaped.specs.Record.{depth_of}
use Rattle.wf_shaped.specs.Resubmitted.{is_chosen, recalled, rows_by}
use Rattle.wf_shaped.specs.Source.{source}
use Rattle.wf_shaped.proofs.KnownLemmas.{are_known}
use Rattle.wf_shaped.specs.Reading.{reading}
use Rattle.wf_prepare.specs.Old.{from_names, is_closed_again, is_redone}
use Rattle.wf_prepare.proofs.ChosenLemmas.{Asked, asked, chosen_ran}
use Rattle.wf_prepare.proofs.OldLemmas.{recalled_taken}
use Rattle.wf_prepare.proofs.laws.record_is_an_old_table.Goals as goal

pub returns : goal.returns
returns c = λ d read r names may e.
    let known = are_known d (c.numbers_stand_once.ensures d read) (c.names_stand_once.ensures d read)
    (c.read_actions_have_their_numbers.ensures d read) c.numbers_have_the_kinds_of_their_actions.ensures in
    let chosen = is_chosen (from_names d names) in
    let questions : Asked d r.rows names = asked d r.digest r.rows names may.accepted in
    let redo = c.a_set_has_its_parts.ensures (graph_of d) (depth_of d) chosen (c.numbers_stand_once.ensures d read)
    (c.entries_stay_in_their_graph.ensures d read) (c.depths_are_how_many_are_before.ensures d read)
    (c.what_is_chosen_stands_in_no_loop.ensures d read r names may).out_of_loops in
    shaped_is_old_table (source d e) (λ n. (refl, refl)) (graph_of d) chosen (is_redone d names) (is_closed_again d names)
    (rows_by d r.rows) (λ n row is there. chosen_ran d known r.rows names questions.there questions.ran e n row is there) (reading d)
    (recalled d r.rows) (λ n row is there. recalled_taken d r.rows n row there) redo
    (c.record_has_the_right_shape.ensures d read r names may e)
