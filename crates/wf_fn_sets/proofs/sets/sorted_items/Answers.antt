use Rattle.std.proofs.Common.{◌∙◌, ◌++◌, ap, map}
use Rattle.wf_fn_sets.specs.Keys.{key_tree}
use Rattle.wf_fn_list.specs.Membership.{is_among}
use Rattle.wf_fn_sets.proofs.SearchLemmas.{among-moved}
use Rattle.wf_fn_sets.proofs.sets.sorted_items.Goals as goal

pub returns : goal.returns
returns c =
    let pushed = c.in_ok-push_items.ensures ∙ ap (λ l. map key_tree l ++ c.args.list.now) c.new-items.ensures.items in
    record {
      same = λ x. among-moved _ _ x c.sort_unstable.ensures.permutation ∙ ap (λ l. is_among l x) pushed;
      in_order = c.sort_unstable.ensures.sorted;
    }
