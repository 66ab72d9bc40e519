use Rattle.std.proofs.Common.{◌∙◌, ◌+◌, ◌++◌, sym, ap, map, drop}
use Rattle.wf_fn_sets.specs.Keys.{key_tree}
use Rattle.wf_fn_sets.specs.Places.{placed_trees, placed_from}
use Rattle.wf_fn_sets.proofs.RestLemmas.{one-more, rest-from}
use Rattle.wf_fn_sets.proofs.sets.with_places.Goals as goal

pub loop-place-preserved : goal.loop-place-preserved
loop-place-preserved c =
    let place = c.loop-place.place in
    one-more placed_trees c.loop-place.placed.items c.push.new.self.items _
    (placed_from (place + 1) (map key_tree (drop (place + 1) c.args.values.now))) c.in_ok-push.ensures.items
    ∙ ap (λ l. map placed_trees c.loop-place.placed.items ++ l)
    (sym (rest-from (λ l. placed_from place (map key_tree l)) c.args.values.now place c.index-values-place.result c.loop-place-test.true
    c.index-values-place.is))
    ∙ c.loop-place.invariant
