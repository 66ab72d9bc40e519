use Rattle.wf_form.specs.Fault.{inner_of}
use Rattle.wf_shaped.proofs.ReadLemmas.{inner-fine}
use Rattle.wf_shaped.specs.Record.{depth_of, meaning}
use Rattle.wf_shaped.specs.Source.{table_of}
use Rattle.wf_shaped.proofs.KnownLemmas.{are_known}
use Rattle.wf_prepare.proofs.BackLemmas.{rows_back}
use Rattle.wf_prepare.proofs.NamedLemmas.{none-unnamed}
use Rattle.wf_prepare.proofs.laws.a_meaning_keeps_its_rows.Goals as goal

pub returns : goal.returns
unfolding meaning
returns c = λ d read none e.
    let known = are_known d (c.numbers_stand_once.ensures d read) (c.names_stand_once.ensures d read)
    (c.read_actions_have_their_numbers.ensures d read) c.numbers_have_the_kinds_of_their_actions.ensures in
    let unnamed = none-unnamed d read (c.the_first_fault.ensures.none (inner_of read.value) (inner-fine read.value read.holds)).1.1.1.0 in
    let t = table_of d e (depth_of d) in
    let whole = c.meant_rows_are_whole.ensures d read none e in
    rows_back d known unnamed t (λ x row there. (whole.instances x row there).0) (c.listed_rows_stand_for_the_table.ensures d read t whole)
