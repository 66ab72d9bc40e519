use Rattle.wf_meter.proofs.PriceLemmas.{all_priced}
use Rattle.wf_meter.proofs.plans_price_containers.Goals as goal

pub returns : goal.returns
returns g c = λ see started decided told d depth m p plan rows running opens reached order items weight.
    all_priced see started decided told d depth m p plan rows running opens reached order items weight
