use Rattle.wf_told.proofs.MeasureLemmas.{measured_alike, no_fault_beside, same_but_the_peak}
use Rattle.wf_told.proofs.laws.one_measure_is_told.Goals as goal

pub returns-clause-one : goal.returns-clause-one
returns-clause-one c = λ d read holds i schedule.
    measured_alike d i schedule (λ e. c.runs_are_told_alike.ensures d read holds e schedule _)

pub returns-clause-others : goal.returns-clause-others
returns-clause-others c = λ d read holds i schedule other.
    same_but_the_peak d i schedule other (λ e. c.runs_have_as_many_steps.ensures d read holds e schedule other _ _)

pub returns-clause-none : goal.returns-clause-none
returns-clause-none c = λ d i schedule m f. no_fault_beside d i schedule m f
