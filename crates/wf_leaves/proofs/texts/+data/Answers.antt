use Rattle.std.proofs.Common.{◌≡◌, ℕ, ◌+◌, List, ◌∷◌, ◌++◌, map, drop, ap, sym, subst, ◌∙◌, arith}
use Rattle.wf_val.specs.Seen.{tree, member}
use Rattle.wf_val.specs.NameOrder.{IsAboveAll}
use Rattle.wf_val.specs.ValueTree.{members}
use Rattle.wf_val.specs.declared.val.Val.{Val}
use Rattle.wf_val.proofs.NodeCountLemmas.{item-falls, member-falls}
use Rattle.wf_template.specs.DataTree.{DataMember, name_of_data}
use Rattle.wf_leaves.specs.Texts.{data_of, members_of}
use Rattle.wf_leaves.proofs.DataLemmas.{above-read}
use Rattle.wf_def.proofs.SizeLemmas.{drop_at_place}
use Rattle.wf_leaves.proofs.texts.+data.Goals as goal

pub items_of-data_of-requires : goal.items_of-data_of-requires
items_of-data_of-requires t c =
    let here = item-falls c.args.items.now c.as_slice-item-items.result.now c.loop-item.item-index c.item-item.result c.as_slice-item-items.ensures (omega arith) c.item-item.is in
    omega (arith, c.decreases, here)

pub members_of-data_of-requires : goal.members_of-data_of-requires
members_of-data_of-requires t c =
    let here = member-falls c.args.fields.now c.as_slice-name-items.result.now c.loop-name.name-index c.loop-name-item.result c.as_slice-name-items.ensures.members (omega arith) c.loop-name-item.is in
    omega (arith, c.decreases, here)

pub members_of-append-requires : goal.members_of-append-requires
members_of-append-requires t c =
    let ms : List (List ℕ × Val) = c.as_slice-name-items.result.now in
    let i = c.loop-name.name-index in
    let item : List ℕ × Val = c.loop-name-item.result in
    let found : List DataMember = c.loop-name.found in
    let here = drop_at_place ms i item (omega arith) c.loop-name-item.is in
    let whole : found ++ (item.0, data_of (tree item.1)) ∷ members_of (members (map member (drop (i + 1) ms))) ≡ members_of (members c.args.fields.now) =
    sym (ap (λ (xs : List (List ℕ × Val)). found ++ members_of (members (map member xs))) here) ∙ c.loop-name.invariant in
    subst (λ (k : List ℕ). IsAboveAll name_of_data k found) (sym c.in_ok-copy.ensures)
    (above-read c.args.fields.now found (member item) (map member (drop (i + 1) ms)) c.as_slice-name-items.ensures.in_order whole)
