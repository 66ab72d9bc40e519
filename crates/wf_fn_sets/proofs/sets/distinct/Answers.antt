use Rattle.std.proofs.Common.{rules, ◌∙◌, ap, map}
use Rattle.std.proofs.lemmas.Fn.{dedup_same}
use Rattle.std.proofs.lemmas.List.Sorted.{answers_always}
use Rattle.wf_fn_sets.specs.Keys.{key_tree}
use Rattle.wf_fn_sets.proofs.DistinctLemmas.{is_same, distinct-placed}
use Rattle.wf_fn_sets.proofs.sets.distinct.Goals as goal

pub returns : goal.returns
returns c =
    let moved = c.in_ok-sort_by_key.ensures in
    let back = c.in_ok-sort_by_key-2.ensures in
    let ones = dedup_same _ (is_same (λ e. e.place) (λ e. key_tree e.item)) _ (λ x y b f x' y' k. search rules) _ _
    c.dedup_by_key.ensures.filtered in
    let kept = distinct-placed (λ e. e.place) (λ e. key_tree e.item) (map key_tree c.args.values.now) c.in_ok-placed.placed.items
    c.sort_by_key.new.self.items c.dedup_by_key.new.self.items c.sort_by_key-2.new.self.items c.in_ok-placed.ensures
    moved.permutation (moved.sorted (λ e. e.item) (answers_always _ _ _ (λ f a r g k. search rules)))
    (moved.stable (λ e. e.item) (answers_always _ _ _ (λ f a r g k. search rules))) ones
    back.permutation (back.sorted (λ e. e.place) (answers_always _ _ _ (λ f a r g k. search rules)))
    (back.stable (λ e. e.place) (answers_always _ _ _ (λ f a r g k. search rules))) in
    let copied = ap (map (λ e. key_tree e.item)) c.as_slice.ensures.value ∙ kept in
    rw copied at c.items_of_placed.ensures
