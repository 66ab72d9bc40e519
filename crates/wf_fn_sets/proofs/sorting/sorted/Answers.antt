use Rattle.std.proofs.Common.{rules, ◌∙◌, ap, map, option_map}
use Rattle.std.proofs.lemmas.List.Sorted.{answers_always}
use Rattle.wf_val.specs.Seen.{tree}
use Rattle.wf_fn_sets.proofs.SortLemmas.{sorted-keys}
use Rattle.wf_fn_sets.proofs.sorting.sorted.Goals as goal

pub returns : goal.returns
returns c =
    let kept = sorted-keys (option_map (λ t. t.now) c.args.name) (map tree c.args.values.now) c.in_ok-items.items.items
    c.sort_by_key.new.self.items c.requires c.in_ok-items.ensures
    (c.in_ok-sort_by_key.ensures.sorted (λ e. e.key) (answers_always _ _ _ (λ f a r g k. search rules)))
    (c.in_ok-sort_by_key.ensures.stable (λ e. e.key) (answers_always _ _ _ (λ f a r g k. search rules))) in
    let copied = ap (map (λ e. tree e.item.now)) c.as_slice.ensures.value ∙ kept in
    rw copied at c.items_of_keyed.ensures
