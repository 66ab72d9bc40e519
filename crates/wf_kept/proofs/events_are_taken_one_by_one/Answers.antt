use Rattle.wf_layers.proofs.Bounded.{events_are_counted}
use Rattle.wf_layers.proofs.OldTable.{any_ends}
use Rattle.wf_kept.proofs.Taken.{one_more_taken, taken_once}
use Rattle.wf_kept.proofs.events_are_taken_one_by_one.Goals as goal

pub returns-clause-begun : goal.returns-clause-begun
returns-clause-begun g c = λ d depth m is es s run. events_are_counted d m depth is es s run

pub returns-clause-resumed : goal.returns-clause-resumed
returns-clause-resumed g c =
    λ d depth a b redo again r recall falls closed sb old es s run. any_ends a b redo again d depth falls sb r recall old closed es s run

pub returns-clause-goes_on : goal.returns-clause-goes_on
returns-clause-goes_on g c = λ d depth m s reached. one_more_taken d depth m s reached

pub returns-clause-once : goal.returns-clause-once
returns-clause-once g c = λ d depth m s k l. taken_once d depth m s k l
