use Rattle.wf_accepted_laws.proofs.ActionLemmas.{all-actions}
use Rattle.wf_accepted_laws.proofs.standings_are_the_actions.Goals as goal

pub returns : goal.returns
returns c = λ g. all-actions g
