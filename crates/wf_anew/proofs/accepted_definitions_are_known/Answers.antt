use Rattle.wf_anew.proofs.KnownLemmas.{none_broken}
use Rattle.wf_anew.proofs.NameLemmas.{number_is}
use Rattle.wf_anew.proofs.TrackedLemmas.{tracked_quiet}
use Rattle.wf_anew.proofs.accepted_definitions_are_known.Goals as goal

pub returns : goal.returns
returns c = λ d r none.
    let named = c.actions_are_named.ensures d r in record {
      named = named;
      once = c.numbers_stand_once.ensures d r;
      closed = c.entries_stay_in_their_graph.ensures d r;
      falls = c.depths_are_how_many_are_before.ensures d r;
      local = λ e. (c.a_definition_is_an_instance.ensures d r none e).local;
      whole = c.meant_rows_are_whole.ensures d r none;
      listed = c.listed_rows_stand_for_the_table.ensures d r;
      recalls = c.rows_recall_what_was_decided.ensures d;
      tracks = c.what_an_action_does_is_local.ensures.tracked;
      quiet = λ n a is.
          tracked_quiet d (c.the_first_broken_rule.ensures.none d (none_broken d none)).1.1.1.1.1.1.1.1.1.1.1.0
          (c.standings_are_the_actions.ensures d.top) n a is (number_is d named n a is);
    }
