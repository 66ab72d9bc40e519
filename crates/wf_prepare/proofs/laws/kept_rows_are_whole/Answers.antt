use Rattle.wf_form.specs.Fault.{inner_of}
use Rattle.wf_shaped.proofs.ReadLemmas.{inner-fine}
use Rattle.wf_shaped.proofs.KnownLemmas.{are_known}
use Rattle.wf_prepare.proofs.KeptLemmas.{whole_kept}
use Rattle.wf_prepare.proofs.NamedLemmas.{none-unnamed}
use Rattle.wf_prepare.proofs.laws.kept_rows_are_whole.Goals as goal

pub returns : goal.returns
returns c = λ d read r names may.
    let known = are_known d (c.numbers_stand_once.ensures d read) (c.names_stand_once.ensures d read)
    (c.read_actions_have_their_numbers.ensures d read) c.numbers_have_the_kinds_of_their_actions.ensures in
    let unnamed = none-unnamed d read (c.the_first_fault.ensures.none (inner_of read.value) (inner-fine read.value read.holds)).1.1.1.0 in
    whole_kept d known unnamed r.rows may.shape
