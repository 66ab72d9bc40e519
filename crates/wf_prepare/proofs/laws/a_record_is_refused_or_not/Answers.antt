use Rattle.wf_shaped.proofs.KnownLemmas.{are_known}
use Rattle.wf_prepare.proofs.RefusedLemmas.{one_or_other}
use Rattle.wf_prepare.proofs.laws.a_record_is_refused_or_not.Goals as goal

pub returns : goal.returns
returns c = λ d read r order names.
    let known = are_known d (c.numbers_stand_once.ensures d read) (c.names_stand_once.ensures d read)
    (c.read_actions_have_their_numbers.ensures d read) c.numbers_have_the_kinds_of_their_actions.ensures in
    one_or_other d r names known order
