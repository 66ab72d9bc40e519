use Rattle.wf_prepare.specs.Resubmitted.{resubmitted}
use Rattle.wf_told.proofs.ResubmissionLemmas.{one_text}
use Rattle.wf_told.proofs.laws.one_resubmission_is_told.Goals as goal

pub returns : goal.returns
returns c = λ d read holds r names i schedule text other first second.
    let sound = c.a_definition_is_an_instance.ensures d read holds (resubmitted r i) in
    let old = c.record_is_an_old_table.ensures d read r names first.may (resubmitted r i) in
    one_text d r names i schedule sound old text other first second
