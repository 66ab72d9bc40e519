use Rattle.std.proofs.Common.{◌≡◌, ◌+◌, ℕ, List, Option, drop, map, option_map, string_bytes, ap, ap₂, sym, ◌∙◌, arith, add-one}
use Rattle.wf_val.specs.Seen.{tree}
use Rattle.wf_val.specs.ValueTree.{ValueTree}
use Rattle.wf_val.specs.declared.address.Address.{Address}
use Rattle.wf_val.specs.declared.val.Val.{Val}
use Rattle.wf_json.specs.Pointer.{lesser, least}
use Rattle.wf_places.proofs.WalkLemmas.{drop_at_place}
use Rattle.wf_record_form.specs.RecordForm.{are_unordered, flagged_item, row_address, unordered_after}
use Rattle.wf_record_form.proofs.NeighbourLemmas.{row_more}
use Rattle.wf_record_form.proofs.neighbours.unordered.Goals as goal

pub loop-place-preserved : goal.loop-place-preserved
loop-place-preserved c =
    let rows : List Val = c.args.rows.now in
    let i = c.loop-place.place in
    let item : Val = c.index-rows-place.result in
    let best : Option (List ℕ) = option_map string_bytes c.loop-place.best in
    let best' : Option (List ℕ) = option_map string_bytes c.in_ok-best.best in
    let rest : List ValueTree = map tree (drop (i + 1) rows) in
    let here = drop_at_place rows i item (omega arith) c.index-rows-place.is in
    let now : best' ≡ lesser best (least (flagged_item (are_unordered c.loop-place.before (row_address (tree item))) i)) =
    c.in_ok-best.ensures ∙ ap (λ b. lesser best (least (flagged_item b i)))
    (c.are_unordered-flawed.ensures ∙ ap (are_unordered c.loop-place.before) c.in_ok-address.ensures) in
    ap₂ (λ (a : Option Address) (n : ℕ). lesser best' (least (unordered_after a n rest))) c.in_ok-address.ensures (add-one i)
    ∙ row_more best best' c.loop-place.before i (tree item) rest now
    ∙ ap (λ (xs : List Val). lesser best (least (unordered_after c.loop-place.before i (map tree xs)))) (sym here)
    ∙ c.loop-place.invariant
