use Rattle.std.specs.Prelude.{length}
use Rattle.wf_def.specs.Names.{graph_names}
use Rattle.wf_shaped.specs.Points.{graph_of}
use Rattle.wf_shaped.specs.Record.{depth_of}
use Rattle.wf_shaped.specs.Source.{table_of}
use Rattle.wf_shaped.proofs.KnownLemmas.{are_known}
use Rattle.wf_prepare.proofs.EachLemmas.{each_meant_says, is_ordered, none_broken}
use Rattle.wf_prepare.proofs.InitialLemmas.{has_its_sort}
use Rattle.wf_prepare.proofs.KeptLemmas.{fit_where_said}
use Rattle.wf_prepare.proofs.laws.each_meant_row_fits.Goals as goal

pub returns : goal.returns
returns c = λ d read none e.
    let known = are_known d (c.numbers_stand_once.ensures d read) (c.names_stand_once.ensures d read)
    (c.read_actions_have_their_numbers.ensures d read) c.numbers_have_the_kinds_of_their_actions.ensures in
    let g = graph_of d in
    let closed = c.entries_stay_in_their_graph.ensures d read in
    let falls = (c.a_definition_is_an_instance.ensures d read none e).falls in
    let hold = c.the_first_broken_rule.ensures.none d (none_broken d none) in
    let ordered = is_ordered d known c.names_are_those_named.ensures.same (c.standings_are_the_actions.ensures d.top)
    hold.1.1.0 hold.1.1.1.0
    (λ x y here there. c.order_is_exact.ensures.before (length (graph_names d.top)) g (c.numbers_are_below.ensures d read) closed x y
    here there)
    (λ x y before after.
    c.before_is_an_order.ensures.never_itself g (depth_of d) known.once closed falls x
    (c.before_is_an_order.ensures.transitive g known.once closed x y x before after)) in
    fit_where_said d (table_of d e (depth_of d))
    (each_meant_says d known e (c.a_definition_is_an_instance.ensures d read none e) (c.loops_may_turn.ensures d read)
    (c.rows_tell_what_was_decided.ensures d e (table_of d e (depth_of d)))
    (record {
      all = c.what_is_initialized_is_given.ensures;
      set = c.what_is_written_keeps_its_type.ensures.set;
      increment = c.what_is_written_keeps_its_type.ensures.increment;
      decrement = c.what_is_written_keeps_its_type.ensures.decrement;
      item = c.what_is_written_keeps_its_type.ensures.item;
      text = c.what_is_written_keeps_its_type.ensures.text;
    })
    c.what_is_given_is_found.ensures (has_its_sort d ordered))
