use Rattle.std.proofs.Common.{◌≡◌, ◌+◌, ◌++◌, ℕ, List, Option, drop, map, option_map, string_bytes, get_or, ap, sym, ◌∙◌, arith}
use Rattle.wf_val.specs.Seen.{tree, member}
use Rattle.wf_val.specs.ValueTree.{node_count, members, members_count, trees, trees_count}
use Rattle.wf_val.specs.declared.val.Val.{Val}
use Rattle.wf_val.proofs.NodeCountLemmas.{item_count-le, member_count-le}
use Rattle.wf_kinds.specs.Pointer.{lesser, least, member_step}
use Rattle.wf_texts.specs.Bad.{bad_texts, bad_items, bad_members}
use Rattle.wf_texts.proofs.TextLemmas.{drop_at_place, item_more, part_more}
use Rattle.wf_texts.proofs.bad.+bad.Goals as goal

pub bad_members-bad_texts-requires : goal.bad_members-bad_texts-requires
bad_members-bad_texts-requires t c =
    let ms : List (List ℕ × Val) = c.as_slice-key-items.result.now in
    let item = c.loop-key-item.result in
    let whole : members_count (members (map member ms)) ≡ members_count (members c.args.fields.now) =
    ap (λ ts. members_count (members ts)) c.as_slice-key-items.ensures.members in
    let same : node_count (tree item.1) ≡ node_count (tree (get_or ms c.loop-key.key-index item).1) =
    ap (λ (m : List ℕ × Val). node_count (tree m.1)) c.loop-key-item.is in
    let here = member_count-le ms c.loop-key.key-index item (omega arith) in
    omega (arith, c.decreases, whole, same, here)

pub bad_members-loop-key-preserved : goal.bad_members-loop-key-preserved
bad_members-loop-key-preserved t c =
    let ms : List (List ℕ × Val) = c.as_slice-key-items.result.now in
    let i = c.loop-key.key-index in
    let item : List ℕ × Val = c.loop-key-item.result in
    let best : Option (List ℕ) = option_map string_bytes c.loop-key.best in
    let rest : Option (List ℕ) = option_map string_bytes c.in_ok-rest.rest in
    let here = drop_at_place ms i item (omega arith) c.loop-key-item.is in
    let now = c.in_ok-best.ensures ∙ ap (λ (k : List ℕ). lesser best (option_map (λ q. member_step k ++ q) rest)) c.as_str.ensures in
    part_more (member_step item.0) (bad_texts (tree item.1)) (bad_members (members (map member (drop (i + 1) ms))))
    best (option_map string_bytes c.in_ok-best.best) rest c.in_ok-rest.ensures now
    ∙ ap (λ (xs : List (List ℕ × Val)). lesser best (least (bad_members (members (map member xs))))) (sym here)
    ∙ c.loop-key.invariant

pub bad_items-bad_texts-requires : goal.bad_items-bad_texts-requires
bad_items-bad_texts-requires t c =
    let vs : List Val = c.as_slice-item-items.result.now in
    let item : Val = c.item-item.result in
    let whole : trees_count (trees (map tree vs)) ≡ trees_count (trees c.args.items.now) =
    ap (λ ts. trees_count (trees ts)) c.as_slice-item-items.ensures in
    let same : node_count (tree item) ≡ node_count (tree (get_or vs c.loop-place.place item)) =
    ap (λ v. node_count (tree v)) c.item-item.is in
    let here = item_count-le vs c.loop-place.place item (omega arith) in
    omega (arith, c.decreases, whole, same, here)

pub bad_items-loop-place-preserved : goal.bad_items-loop-place-preserved
bad_items-loop-place-preserved t c =
    let vs : List Val = c.as_slice-item-items.result.now in
    let i = c.loop-place.place in
    let item : Val = c.item-item.result in
    let best : Option (List ℕ) = option_map string_bytes c.loop-place.best in
    let rest : Option (List ℕ) = option_map string_bytes c.in_ok-rest.rest in
    let here = drop_at_place vs i item (omega arith) c.item-item.is in
    item_more i (bad_texts (tree item)) (λ place. bad_items place (trees (map tree (drop (i + 1) vs))))
    best (option_map string_bytes c.in_ok-best.best) rest c.in_ok-rest.ensures c.in_ok-best.ensures
    ∙ ap (λ (xs : List Val). lesser best (least (bad_items i (trees (map tree xs))))) (sym here)
    ∙ c.loop-place.invariant
