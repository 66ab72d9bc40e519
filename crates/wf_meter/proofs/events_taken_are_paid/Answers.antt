use Rattle.wf_meter.proofs.FewLemmas.{taken_paid}
use Rattle.wf_meter.proofs.events_taken_are_paid.Goals as goal

pub returns : goal.returns
returns g c = λ see started decided told d depth m rows running opens reached by_rows by_running by_opens turns tells cost priced begun_weight
    weight k taken.
    taken_paid see started decided told d depth m rows running opens reached by_rows by_running by_opens weight turns tells cost priced
    begun_weight k taken
