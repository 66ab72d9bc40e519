use Rattle.std.proofs.Common.{◌∙◌, ap, map, sym}
use Rattle.wf_fn_sets.specs.Keys.{key_tree}
use Rattle.wf_fn_list.specs.Membership.{is_among}
use Rattle.wf_fn_sets.proofs.SetLemmas.{test-passed, test-kept}
use Rattle.wf_fn_sets.proofs.sets.those_in.Goals as goal

pub loop-value-preserved-then-not-has : goal.loop-value-preserved-then-not-has
loop-value-preserved-then-not-has c =
    let value = key_tree c.value-item.result in
    let no = sym (c.in_ok-there.ensures.same value) ∙ ap (λ l. is_among (map key_tree l) value) (sym c.as_slice.ensures.value)
    ∙ sym c.has.ensures ∙ c.if-not-has.true in
    test-passed key_tree (is_among c.args.list.now) c.loop-value.found.items c.args.values.now c.loop-value.value-index
    c.value-item.result c.loop-value-test.true c.value-item.is no
    ∙ c.loop-value.invariant

pub loop-value-preserved : goal.loop-value-preserved
loop-value-preserved c =
    let value = key_tree c.value-item.result in
    let yes = sym (c.in_ok-there.ensures.same value) ∙ ap (λ l. is_among (map key_tree l) value) (sym c.as_slice.ensures.value)
    ∙ sym c.has.ensures ∙ c.if-not-has.false in
    test-kept key_tree (is_among c.args.list.now) c.loop-value.found.items c.push.new.self.items c.args.values.now
    c.loop-value.value-index c.value-item.result c.loop-value-test.true c.value-item.is yes c.in_ok-push.ensures.items
    ∙ c.loop-value.invariant
