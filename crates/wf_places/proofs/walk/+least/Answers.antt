use Rattle.std.proofs.Common.{◌≡◌, ◌+◌, ◌++◌, ℕ, List, Option, drop, map, option_map, string_bytes, get_or, ap, ap₂, sym, ◌∙◌, arith, add-one}
use Rattle.wf_json.specs.Pointer.{lesser, least, member_step}
use Rattle.wf_places.specs.Form.{in_part, in_members, in_items, places}
use Rattle.wf_places.proofs.WalkLemmas.{member_more, item_more, drop_at_place}
use Rattle.wf_val.specs.Seen.{tree, member}
use Rattle.wf_val.specs.ValueTree.{node_count, members, members_count, trees, trees_count}
use Rattle.wf_val.specs.declared.val.Val.{Val}
use Rattle.wf_val.proofs.NodeCountLemmas.{member_count-le, item_count-le}
use Rattle.wf_places.proofs.walk.+least.Goals as goal

pub least_with_members-least_in_part-requires : goal.least_with_members-least_in_part-requires
least_with_members-least_in_part-requires g t c κs within =
    let ms : List (List ℕ × Val) = c.as_slice-name-items.result.now in
    let item = c.loop-name-item.result in
    let whole : members_count (members (map member ms))
    ≡ members_count (members c.args.fields.now) = ap (λ ts. members_count (members ts)) c.as_slice-name-items.ensures.members in
    let same : node_count (tree item.1) ≡ node_count (tree (get_or ms c.loop-name.name-index item).1) = ap (λ
    (m : List ℕ × Val). node_count (tree m.1)) c.loop-name-item.is in
    let here = member_count-le ms c.loop-name.name-index item (omega arith) in
    (omega (arith, c.decreases, whole, same, here), within)

pub least_with_items-least_in-requires : goal.least_with_items-least_in-requires
least_with_items-least_in-requires g t c κs within =
    let vs : List Val = c.as_slice-item-items.result.now in
    let item : Val = c.item-item.result in
    let whole : trees_count (trees (map tree vs))
    ≡ trees_count (trees c.args.items.now) = ap (λ ts. trees_count (trees ts)) c.as_slice-item-items.ensures in
    let same : node_count (tree item) ≡ node_count (tree (get_or vs c.loop-place.place item)) = ap (λ v. node_count
    (tree v)) c.item-item.is in
    let here = item_count-le vs c.loop-place.place item (omega arith) in
    (omega (arith, c.decreases, whole, same, here), within)

pub least_with_members-loop-name-preserved : goal.least_with_members-loop-name-preserved
least_with_members-loop-name-preserved g t c =
    let ms : List (List ℕ × Val) = c.as_slice-name-items.result.now in
    let i = c.loop-name.name-index in
    let item : List ℕ × Val = c.loop-name-item.result in
    let best : Option (List ℕ) = option_map string_bytes c.loop-name.best in
    let rest : Option (List ℕ) = option_map string_bytes c.in_ok-rest.rest in
    let table = g.F.Form.table in
    let here = drop_at_place ms i item (omega arith) c.loop-name-item.is in
    let asked = c.member.ensures ∙ ap (table.member c.args.role) c.as_str.ensures in
    let found : rest ≡ least (in_part (table.is_closed c.args.role) (table.member c.args.role item.0) (λ part. places table part
    (tree item.1))) =
    c.in_ok-rest.ensures
    ∙ ap₂ (λ closed part. least (in_part closed part (λ role. places table role (tree item.1)))) c.is_closed-closed.ensures asked in
    let now = c.in_ok-best.ensures ∙ ap (λ (k : List ℕ). lesser best (option_map
    (λ q. member_step k ++ q) rest)) c.as_str-in-loop-name.ensures in
    member_more table c.args.role best (option_map string_bytes c.in_ok-best.best) rest item.0 (tree item.1) (members (map member (drop
    (i + 1) ms))) found now
    ∙ ap (λ (xs : List (List ℕ × Val)). lesser best (least (in_members table c.args.role (members (map member xs))))) (sym here)
    ∙ c.loop-name.invariant

pub least_with_items-loop-place-preserved : goal.least_with_items-loop-place-preserved
least_with_items-loop-place-preserved g t c =
    let vs : List Val = c.as_slice-item-items.result.now in
    let i = c.loop-place.place in
    let item : Val = c.item-item.result in
    let best : Option (List ℕ) = option_map string_bytes c.loop-place.best in
    let rest : Option (List ℕ) = option_map string_bytes c.in_ok-rest.rest in
    let table = g.F.Form.table in
    let here = drop_at_place vs i item (omega arith) c.item-item.is in
    ap (λ n. lesser (option_map string_bytes c.in_ok-best.best) (least (in_items table c.args.role n (trees (map tree (drop
    (i + 1) vs)))))) (add-one i)
    ∙ item_more table c.args.role best (option_map string_bytes c.in_ok-best.best) rest i (tree item) (trees (map tree (drop
    (i + 1) vs))) c.in_ok-rest.ensures c.in_ok-best.ensures
    ∙ ap (λ (xs : List Val). lesser best (least (in_items table c.args.role i (trees (map tree xs))))) (sym here)
    ∙ c.loop-place.invariant
