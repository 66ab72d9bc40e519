use Rattle.std.proofs.Common.{◌+◌, ◌∙◌, ℕ, List, [], ◌∷◌, Option, drop, map, option_map, string_bytes, ap, sym, arith}
use Rattle.wf_val.specs.Seen.{tree}
use Rattle.wf_val.specs.ValueTree.{ValueTree, trees}
use Rattle.wf_val.specs.declared.val.Val.{Val}
use Rattle.wf_kinds.specs.Pointer.{lesser, least}
use Rattle.wf_texts.specs.Members.{along, in_items, to}
use Rattle.wf_texts.proofs.TextLemmas.{drop_at_place, item_more}
use Rattle.wf_texts.proofs.members.in_items.Goals as goal

pub loop-place-preserved : goal.loop-place-preserved
loop-place-preserved c =
    let vs : List Val = c.as_slice-item-items.result.now in
    let i = c.loop-place.place in
    let item : Val = c.item-item.result in
    let f : ValueTree → List (List ℕ) = λ u. along (to c.args.name.now ∷ []) u in
    let best : Option (List ℕ) = option_map string_bytes c.loop-place.best in
    let rest : Option (List ℕ) = option_map string_bytes c.in_ok-rest.rest in
    let here = drop_at_place vs i item (omega arith) c.item-item.is in
    item_more i (f (tree item)) (λ place. in_items f place (trees (map tree (drop (i + 1) vs))))
    best (option_map string_bytes c.in_ok-best.best) rest c.in_ok-rest.ensures c.in_ok-best.ensures
    ∙ ap (λ (xs : List Val). lesser best (least (in_items f i (trees (map tree xs))))) (sym here)
    ∙ c.loop-place.invariant
