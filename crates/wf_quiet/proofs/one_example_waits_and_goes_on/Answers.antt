use Rattle.std.proofs.Common.{refl}
use Rattle.wf_quiet.proofs.Example.{graph, depths, waiting, complete, up_to, quiet_state, waits_and_goes_on}
use Rattle.wf_quiet.proofs.one_example_waits_and_goes_on.Goals as goal

pub returns : goal.returns
returns c = (graph, depths, waiting, complete, up_to 1, up_to 3, quiet_state, waits_and_goes_on, refl, refl)
