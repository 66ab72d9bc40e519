use Rattle.std.proofs.Common.{ap, refl, ◌∙◌, List, ℕ}
use Rattle.wf_record.specs.Record.{RecordTree}
use Rattle.wf_resubmit.specs.Refused.{numbers_of}
use Rattle.wf_turns.specs.Record.{meaning}
use Rattle.wf_turns.specs.Resubmitted.{pinned}
use Rattle.wf_anew.proofs.StandLemmas.{asked_too, stands}
use Rattle.wf_anew.proofs.a_record_that_stands_for_a_meaning.Goals as goal

pub returns : goal.returns
unfolding meaning pinned
returns c = λ d r none e log standing i names accepted.
    let from : List ℕ = numbers_of d.top names in
    ap (λ (q : RecordTree). pinned d q i from) standing.all_else
    ∙ stands d (c.accepted_definitions_are_known.ensures d r none) e (meaning d e) i from refl
    (record { trigger = refl; parameters = refl })
    (asked_too d log (meaning d e) standing.rows from (c.what_is_accepted_is_asked_of.ensures d r log names accepted)) log.rows
    standing.rows
