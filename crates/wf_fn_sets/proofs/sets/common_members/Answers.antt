use Rattle.std.proofs.Common.{arith, true, false, ◌∙◌, sym, ap, map, subst, ◌++◌, ◌∷◌, []}
use Rattle.std.proofs.lemmas.List.{append-nil, take_all, length-map}
use Rattle.std.specs.List.{filter}
use Rattle.wf_val.specs.Get.{name_of}
use Rattle.wf_val.specs.NameOrder.{IsAboveAll}
use Rattle.wf_val.specs.Seen.{tree, member}
use Rattle.wf_val.specs.ValueTree.{Member}
use Rattle.wf_fn_sets.specs.Sets.{all_have}
use Rattle.wf_fn_sets.proofs.MemberLemmas.{above-chosen, one-chosen, last-members}
use Rattle.wf_fn_sets.proofs.sets.common_members.Goals as goal

pub loop-name-preserved-then-not-all_have : goal.loop-name-preserved-then-not-all_have
loop-name-preserved-then-not-all_have c =
    let test = λ (m : Member). all_have (map (λ o. o.now) c.args.objects.now) m.0 in
    let no = sym c.all_have.ensures ∙ c.if-not-all_have.true in
    c.loop-name.invariant
    ∙ sym (one-chosen member test c.as_slice-name-items.result.now c.loop-name.name-index c.loop-name-item.result false
    c.loop-name-test.true c.loop-name-item.is no ∙ append-nil _)

pub append-requires : goal.append-requires
append-requires c =
    let test = λ (m : Member). all_have (map (λ o. o.now) c.args.objects.now) m.0 in
    let name = c.loop-name-item.result.0 in
    let chosen = above-chosen member test c.as_slice-name-items.result.now _ c.loop-name.name-index c.loop-name-item.result
    c.as_slice-name-items.ensures.members c.as_slice-name-items.ensures.in_order
    c.loop-name-test.true c.loop-name-item.is in
    subst (λ k. IsAboveAll name_of k c.loop-name.common) (sym c.in_ok-copy.ensures)
    (subst (IsAboveAll name_of name) (sym c.loop-name.invariant) chosen)

pub loop-name-preserved : goal.loop-name-preserved
loop-name-preserved c =
    let test = λ (m : Member). all_have (map (λ o. o.now) c.args.objects.now) m.0 in
    let item = c.loop-name-item.result in
    let yes = sym c.all_have.ensures ∙ c.if-not-all_have.false in
    c.in_ok-append.ensures.ok
    ∙ ap (λ k. c.loop-name.common ++ (k, tree c.in_ok-copy-2.field-0) ∷ []) c.in_ok-copy.ensures
    ∙ ap (λ v. c.loop-name.common ++ (item.0, tree v) ∷ []) c.in_ok-copy-2.ensures
    ∙ ap (λ l. l ++ member item ∷ []) c.loop-name.invariant
    ∙ sym (one-chosen member test c.as_slice-name-items.result.now c.loop-name.name-index item true c.loop-name-test.true
    c.loop-name-item.is yes)

pub returns : goal.returns
returns c =
    let test = λ (m : Member). all_have (map (λ o. o.now) c.args.objects.now) m.0 in
    let items = c.as_slice-name-items.result.now in
    c.loop-name.invariant
    ∙ ap (filter test) (
    take_all c.loop-name.name-index (map member items) (omega (arith, length-map items member))
    ∙ c.as_slice-name-items.ensures.members
    ∙ last-members (λ o. o.now) c.args.objects.now c.in-Some.last.now c.in-Some.ensures.value
    )
