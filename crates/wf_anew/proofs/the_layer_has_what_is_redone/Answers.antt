use Rattle.wf_resubmit.specs.Refused.{numbers_of}
use Rattle.wf_turns.specs.Points.{graph_of}
use Rattle.wf_anew.proofs.RedoneLemmas.{names_what_is_redone}
use Rattle.wf_anew.proofs.the_layer_has_what_is_redone.Goals as goal

pub returns : goal.returns
returns c = λ d r log names accepted.
    names_what_is_redone d (c.actions_are_named.ensures d r) (c.numbers_stand_once.ensures d r)
    (c.entries_stay_in_their_graph.ensures d r) (c.depths_are_how_many_are_before.ensures d r) (numbers_of d.top names)
    (c.what_is_accepted_is_asked_of.ensures d r log names accepted).may (c.a_set_redoes.ensures (graph_of d))
