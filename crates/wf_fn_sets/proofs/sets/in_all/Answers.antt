use Rattle.std.proofs.Common.{arith, ◌∙◌, sym, ap, map, drop, ◌+◌}
use Rattle.std.proofs.lemmas.List.{at_drop_all}
use Rattle.std.specs.List.{filter, list_all}
use Rattle.wf_fn_sets.specs.Keys.{key_tree}
use Rattle.wf_fn_list.specs.Membership.{is_among}
use Rattle.wf_fn_sets.proofs.RestLemmas.{rest-from}
use Rattle.wf_fn_sets.proofs.SetLemmas.{one-list, no-list}
use Rattle.wf_fn_sets.proofs.sets.in_all.Goals as goal

pub loop-list-preserved : goal.loop-list-preserved
loop-list-preserved c =
    let kept = map key_tree c.loop-list.kept.items in
    let others = map (λ y. y.now) (drop (c.loop-list.list-index + 1) c.args.lists.now) in
    ap (filter (λ x. list_all (λ ys. is_among ys x) others))
    (c.in_ok-kept.ensures ∙ ap (λ l. filter (is_among c.list-item.result.now) (map key_tree l)) c.as_slice.ensures.value)
    ∙ one-list kept c.list-item.result.now others
    ∙ sym (rest-from (λ l. filter (λ x. list_all (λ ys. is_among ys x) (map (λ y. y.now) l)) kept) c.args.lists.now
    c.loop-list.list-index c.list-item.result c.loop-list-test.true c.list-item.is)
    ∙ c.loop-list.invariant

pub returns : goal.returns
returns c =
    let kept = map key_tree c.loop-list.kept.items in
    sym (at_drop_all (λ l. filter (λ x. list_all (λ ys. is_among ys x) (map (λ y. y.now) l)) kept) c.args.lists.now
    c.loop-list.list-index (omega arith) ∙ no-list kept)
    ∙ c.loop-list.invariant
