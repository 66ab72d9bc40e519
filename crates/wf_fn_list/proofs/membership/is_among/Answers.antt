use Rattle.std.proofs.Common.{rules, tests, ◌∙◌}
use Rattle.std.proofs.lemmas.Iterator.{YieldsList-from_slice}
use Rattle.std.proofs.lemmas.Iterator.Search.{any_from_yields_List}
use Rattle.std.specs.Ordering.{is_eq}
use Rattle.wf_val.specs.Seen.{tree}
use Rattle.wf_val.specs.ValueOrder.{order}
use Rattle.wf_fn_list.proofs.MembershipLemmas.{among-mapped}
use Rattle.wf_fn_list.proofs.membership.is_among.Goals as goal

pub returns : goal.returns
returns c =
    let value = tree c.args.value.now in
    any_from_yields_List (λ y. is_eq (order value (tree y))) _ _ _ c.any.ensures.ran (YieldsList-from_slice c.args.values.now cc)
    (λ x b q k. search (rules, tests))
    ∙ among-mapped tree c.args.values.now value
