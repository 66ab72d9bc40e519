use Rattle.wf_form.specs.Fault.{inner_of}
use Rattle.wf_shaped.proofs.ReadLemmas.{inner-fine}
use Rattle.wf_shaped.proofs.KnownLemmas.{are_known}
use Rattle.wf_prepare.proofs.NamedLemmas.{none-unnamed}
use Rattle.wf_prepare.proofs.ShapeLemmas.{right_rows}
use Rattle.wf_prepare.proofs.laws.record_has_the_right_shape.Goals as goal

pub returns : goal.returns
returns c = λ d read r names may e.
    let known = are_known d (c.numbers_stand_once.ensures d read) (c.names_stand_once.ensures d read)
    (c.read_actions_have_their_numbers.ensures d read) c.numbers_have_the_kinds_of_their_actions.ensures in
    let unnamed = none-unnamed d read (c.the_first_fault.ensures.none (inner_of read.value) (inner-fine read.value read.holds)).1.1.1.0 in
    right_rows d known c.a_skipped_row_says_nothing.ensures unnamed r.rows may.shape e
