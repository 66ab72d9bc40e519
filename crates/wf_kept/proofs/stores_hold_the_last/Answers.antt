use Rattle.wf_kept.proofs.Stored.{store_is_written, store_decided, store_running, store_tested}
use Rattle.wf_kept.proofs.stores_hold_the_last.Goals as goal

pub returns-clause-written : goal.returns-clause-written
returns-clause-written g c = λ d depth m writes order s v stored. store_is_written d depth m writes order s v stored

pub returns-clause-decided : goal.returns-clause-decided
returns-clause-decided g c = λ d depth m writes order s v stored. store_decided d depth m writes order s v stored

pub returns-clause-running : goal.returns-clause-running
returns-clause-running g c = λ d depth m writes order s v stored. store_running d depth m writes order s v stored

pub returns-clause-tested : goal.returns-clause-tested
returns-clause-tested g c = λ d depth m writes order s v stored. store_tested d depth m writes order s v stored
