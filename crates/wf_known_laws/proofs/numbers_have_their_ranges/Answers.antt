use Rattle.wf_reading.specs.Fault.{inner_of}
use Rattle.wf_reading.proofs.ReadLemmas.{inner-fine}
use Rattle.wf_known_laws.proofs.DefinitionLemmas.{read-ranges}
use Rattle.wf_known_laws.proofs.numbers_have_their_ranges.Goals as goal

pub returns : goal.returns
returns c = λ d r. read-ranges d r (c.the_first_fault.ensures.none (inner_of r.value) (inner-fine r.value r.holds)).1.1.1.1.1.1.1.0
