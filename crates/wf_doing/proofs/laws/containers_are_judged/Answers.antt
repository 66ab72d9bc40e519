use Rattle.wf_doing.proofs.JudgedLemmas.{all_judged, numbered_judged}
use Rattle.wf_doing.proofs.laws.containers_are_judged.Goals as goal

pub returns : goal.returns
returns c = λ d read n a is.
    let depths = c.actions_have_depths.ensures d read in
    numbered_judged n d.top a
    (all_judged depths.0 (λ graph apart fall at known. c.steps_give_the_status.ensures graph depths.0 apart fall at known) d.top
    (c.numbers_stand_once.ensures d read) (c.entries_stay_in_their_graph.ensures d read) depths.1) is
