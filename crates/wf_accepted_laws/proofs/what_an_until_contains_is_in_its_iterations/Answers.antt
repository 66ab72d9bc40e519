use Rattle.wf_known_laws.proofs.HeldLemmas.{graph-holds, in-iterations}
use Rattle.wf_accepted_laws.proofs.what_an_until_contains_is_in_its_iterations.Goals as goal

pub returns-clause-held : goal.returns-clause-held
returns-clause-held c = λ g once n x kind is inside. graph-holds g once n x kind is inside

pub returns-clause-iterations : goal.returns-clause-iterations
returns-clause-iterations c = λ g once n x most h is inside i j begins. in-iterations g once n x most h is inside i j begins
