use Rattle.wf_meant_laws.specs.Resubmitted.{resubmitted}
use Rattle.wf_pinned.proofs.PinnedLemmas.{kept_is}
use Rattle.wf_pinned.proofs.kept_rows_are_the_records.Goals as goal

pub returns : goal.returns
returns c = λ d read none r i from on x stays.
    let is = c.a_definition_is_an_instance.ensures d read none (resubmitted r i) in kept_is d r i from on is.falls is.local x stays
