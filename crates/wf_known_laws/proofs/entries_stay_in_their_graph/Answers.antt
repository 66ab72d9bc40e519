use Rattle.wf_reading.specs.Fault.{inner_of}
use Rattle.wf_reading.specs.Layered.{layered}
use Rattle.wf_reading.proofs.ReadLemmas.{inner-fine}
use Rattle.wf_known_laws.proofs.DefinitionLemmas.{number_of, read-sound}
use Rattle.wf_known_laws.proofs.ReadGraphLemmas.{graph_owns}
use Rattle.wf_known_laws.proofs.WholeDepthLemmas.{whole_closed}
use Rattle.wf_known_laws.proofs.entries_stay_in_their_graph.Goals as goal

pub returns : goal.returns
returns c = λ d r.
    let fine = (c.the_first_fault.ensures.none (inner_of r.value) (inner-fine r.value r.holds)).1.1.1.1.1.1.1.0 in
    let owns = graph_owns (number_of d r fine) d.top (c.numbers_stand_once.ensures d r)
    (read-sound d r fine c.paths_are_exact.ensures.paths) in
    whole_closed (layered d.top) owns.0 owns.1
