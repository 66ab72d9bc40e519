use Rattle.wf_form.specs.Fault.{inner_of}
use Rattle.wf_reading.proofs.ReadLemmas.{inner-fine}
use Rattle.wf_formed.proofs.LawLemmas.{none_first}
use Rattle.wf_formed.proofs.accepted_definitions_are_known.Goals as goal

pub returns : goal.returns
returns c = λ d read none. record {
  read = read;
  named = (c.the_first_fault.ensures.none (inner_of read.value) (inner-fine read.value read.holds)).1.1.1.0;
  parameters = (c.the_first_broken_rule.ensures.none d (none_first d none)).1.0;
  placed = c.numbers_are_places.ensures d read;
  had = λ n. c.numbers_are_had.ensures d.top n;
  ranges = c.numbers_have_their_ranges.ensures d read;
  few = λ e x known. c.attempts_are_few.ensures d read e x known;
  listed = λ known whole. c.listed_rows_stand_for_the_table.ensures d read known whole;
}
