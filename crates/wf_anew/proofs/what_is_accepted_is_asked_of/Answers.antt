use Rattle.std.specs.Prelude.{length}
use Rattle.wf_def.specs.Names.{graph_names}
use Rattle.wf_anew.proofs.AskedLemmas.{asked_of}
use Rattle.wf_anew.proofs.what_is_accepted_is_asked_of.Goals as goal

pub returns : goal.returns
returns c = λ d r log names.
    asked_of d (c.actions_are_named.ensures d r) log names
    (λ is. c.what_is_chosen_may_be_redone.ensures d.top (length (graph_names d.top)) (record { bytes = d.digest })
    (record { bytes = log.digest }) log.rows names (c.numbers_are_below.ensures d r) (c.numbers_stand_once.ensures d r) is)
