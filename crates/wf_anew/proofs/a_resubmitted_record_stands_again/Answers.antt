use Rattle.std.proofs.Common.{refl, subst, sym, List, ℕ}
use Rattle.wf_record.specs.Record.{RecordTree}
use Rattle.wf_resubmit.specs.Refused.{numbers_of}
use Rattle.wf_turns.specs.Record.{meaning}
use Rattle.wf_anew.specs.Layer.{layer_of, with_layer}
use Rattle.wf_anew.specs.Standing.{StandsFor}
use Rattle.wf_anew.proofs.StandLemmas.{asked_too, stands_again}
use Rattle.wf_anew.proofs.a_resubmitted_record_stands_again.Goals as goal

pub returns : goal.returns
unfolding meaning
returns c = λ d r none e log standing i names accepted.
    let from : List ℕ = numbers_of d.top names in
    subst (λ (q : RecordTree). StandsFor q (meaning d (with_layer e (layer_of d from i))))
    (sym (c.a_record_that_stands_for_a_meaning.ensures d r none e log standing i names accepted))
    (stands_again d (c.accepted_definitions_are_known.ensures d r none) e (meaning d e) i from refl
    (record { trigger = refl; parameters = refl })
    (asked_too d log (meaning d e) standing.rows from (c.what_is_accepted_is_asked_of.ensures d r log names accepted)) log.rows
    standing.rows)
