use Rattle.wf_events.proofs.PlacedLemmas.{placed_by}
use Rattle.wf_events.proofs.laws.rows_are_placed.Goals as goal

pub returns : goal.returns
returns g c =
    λ d depth m s reached e s' st pl p plan. placed_by d depth m s reached e s' st pl p plan
