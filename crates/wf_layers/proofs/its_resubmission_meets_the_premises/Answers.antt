use Rattle.wf_layers.proofs.Example.{graph, a, depths, writes, reading, instance_there}
use Rattle.wf_layers.proofs.ExampleResubmission.{b, c, chosen, recall, meets_again, events_anew, counted_anew}
use Rattle.wf_layers.proofs.its_resubmission_meets_the_premises.Goals as goal

pub returns : goal.returns
returns k = (graph, a, depths, writes, reading, b, c, chosen, recall, instance_there 0, meets_again, events_anew, counted_anew)
