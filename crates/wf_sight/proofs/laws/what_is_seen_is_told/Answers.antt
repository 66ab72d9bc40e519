use Rattle.wf_sight.proofs.ToldLemmas.{seen_at_told, seen_by_outputs_told, seen_in_test_told}
use Rattle.wf_sight.proofs.laws.what_is_seen_is_told.Goals as goal

pub returns-clause-at : goal.returns-clause-at
returns-clause-at c = λ d e m answers x kind depth known once informed. seen_at_told d e m answers x kind depth known once informed

pub returns-clause-in_test : goal.returns-clause-in_test
returns-clause-in_test c = λ d e m answers u most g k depth known once informed.
    seen_in_test_told d e m answers u most g k depth known once informed

pub returns-clause-by_outputs : goal.returns-clause-by_outputs
returns-clause-by_outputs c = λ d e known. seen_by_outputs_told d e known
