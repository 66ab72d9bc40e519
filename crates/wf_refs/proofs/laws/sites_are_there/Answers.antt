use Rattle.std.specs.Prelude.{slice_get}
use Rattle.wf_refs.proofs.SiteLemmas.{map-there}
use Rattle.wf_def.specs.AllActions.{numbered}
use Rattle.wf_refs.specs.Sites.{uses_at_inputs, uses_at_output, uses_at_tracked, uses_at_trigger}
use Rattle.wf_refs.proofs.laws.sites_are_there.Goals as goal

pub returns-clause-inputs : goal.returns-clause-inputs
returns-clause-inputs c = λ d n. map-there uses_at_inputs (numbered n d.top)

pub returns-clause-tracked : goal.returns-clause-tracked
returns-clause-tracked c = λ d n. map-there uses_at_tracked (numbered n d.top)

pub returns-clause-outputs : goal.returns-clause-outputs
returns-clause-outputs c = λ d i. map-there uses_at_output (slice_get d.outputs i)

pub returns-clause-triggers : goal.returns-clause-triggers
returns-clause-triggers c = λ d i. map-there uses_at_trigger (slice_get d.triggers i)
