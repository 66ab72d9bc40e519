use Rattle.wf_reading.specs.Fault.{inner_of}
use Rattle.wf_reading.proofs.ReadLemmas.{inner-fine}
use Rattle.wf_known_laws.proofs.DefinitionLemmas.{read-depths}
use Rattle.wf_known_laws.proofs.each_graph_has_depths.Goals as goal

pub returns : goal.returns
returns c = λ d r. read-depths d r (c.the_first_fault.ensures.none (inner_of r.value)
    (inner-fine r.value r.holds)).1.1.1.1.1.1.1.0 c.paths_are_exact.ensures.paths
