use Rattle.wf_schema.proofs.MismatchLemmas.{fails_are_mismatches}
use Rattle.wf_schema.proofs.laws.places_are_where_a_value_fails.Goals as goal

pub returns : goal.returns
returns c = fails_are_mismatches
