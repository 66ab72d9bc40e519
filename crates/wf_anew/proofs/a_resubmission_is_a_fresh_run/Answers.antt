use Rattle.std.proofs.Common.{refl}
use Rattle.wf_resubmit.specs.Refused.{numbers_of}
use Rattle.wf_turns.specs.Record.{meaning}
use Rattle.wf_turns.specs.Resubmitted.{pinned}
use Rattle.wf_anew.proofs.FreshLemmas.{is_fresh}
use Rattle.wf_anew.proofs.a_resubmission_is_a_fresh_run.Goals as goal

pub returns : goal.returns
unfolding meaning pinned
returns c = λ d r none e i names accepted.
    is_fresh d (c.accepted_definitions_are_known.ensures d r none) e (meaning d e) i (numbers_of d.top names) refl
    (record { trigger = refl; parameters = refl }) (c.what_is_accepted_is_asked_of.ensures d r (meaning d e) names accepted)
