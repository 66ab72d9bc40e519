use Rattle.wf_fn_text.proofs.LawLemmas.{is_first, is_last}
use Rattle.wf_fn_text.proofs.laws.places_are_where_the_text_stands.Goals as goal

pub returns : goal.returns
returns c = record { first = is_first; last = is_last }
