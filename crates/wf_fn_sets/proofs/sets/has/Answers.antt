use Rattle.std.proofs.Common.{◌∙◌}
use Rattle.wf_fn_sets.proofs.SearchLemmas.{found-among}
use Rattle.wf_fn_sets.proofs.sets.has.Goals as goal

pub returns : goal.returns
returns c =
    c.is_ok.ensures.value
    ∙ found-among c.args.values.now c.args.value.now c.binary_search.result c.requires c.binary_search.ensures.bound
    c.binary_search.ensures.position
