use Rattle.wf_kept.proofs.Resumed.{resumption_is_reached, resumption_is_stored, resumption_is_untaken}
use Rattle.wf_kept.proofs.resumptions_are_reached.Goals as goal

pub returns-clause-reached : goal.returns-clause-reached
returns-clause-reached g c = λ d depth m s is. resumption_is_reached d depth m s is

pub returns-clause-untaken : goal.returns-clause-untaken
returns-clause-untaken g c = λ d depth m s is. resumption_is_untaken d depth m s is

pub returns-clause-stored : goal.returns-clause-stored
returns-clause-stored g c = λ d depth m s is writes v last. resumption_is_stored d depth m s is writes v last
