use Rattle.wf_paths.proofs.TableLemmas.{exact, exact-cycle}
use Rattle.wf_paths.proofs.laws.paths_are_exact.Goals as goal

pub returns-clause-paths : goal.returns-clause-paths
returns-clause-paths c = λ nodes a p in_p. exact nodes a p in_p

pub returns-clause-cycles : goal.returns-clause-cycles
returns-clause-cycles c = λ nodes a. exact-cycle nodes a
