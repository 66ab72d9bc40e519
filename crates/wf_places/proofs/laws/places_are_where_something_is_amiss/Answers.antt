use Rattle.wf_places.proofs.AmissLemmas.{listed_iff_amiss}
use Rattle.wf_places.proofs.laws.places_are_where_something_is_amiss.Goals as goal

pub returns : goal.returns
returns g c = listed_iff_amiss g.F.Form.table
