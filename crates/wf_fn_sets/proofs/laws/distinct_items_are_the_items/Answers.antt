use Rattle.wf_fn_sets.proofs.SetLaws.{distinct-among, distinct-once, distinct-more}
use Rattle.wf_fn_sets.proofs.laws.distinct_items_are_the_items.Goals as goal

pub returns : goal.returns
returns c = record { items = distinct-among; once = distinct-once; further = distinct-more }
