-- One row more whose neighbour is judged.
use Rattle.std.proofs.Common.{◌≡◌, ℕ, suc, List, [], ◌∷◌, ◌++◌, Option, append-nil, ap, sym, ◌∙◌}
use Rattle.wf_json.specs.Pointer.{lesser, least, item_step}
use Rattle.wf_json.proofs.PointerLemmas.{least-append, lesser-assoc}
use Rattle.wf_val.specs.ValueTree.{ValueTree}
use Rattle.wf_val.specs.declared.address.Address.{Address}
use Rattle.wf_record_form.specs.RecordForm.{are_unordered, flagged_item, row_address, unordered_after}

pub step_alone : (place : ℕ) → item_step place ++ [] ≡ item_step place
step_alone place = append-nil (item_step place)

pub row_more : (best best' : Option (List ℕ)) (before : Option Address) (place : ℕ) (t : ValueTree) (ts : List ValueTree)
    → best' ≡ lesser best (least (flagged_item (are_unordered before (row_address t)) place))
    → lesser best' (least (unordered_after (row_address t) (suc place) ts)) ≡ lesser best (least (unordered_after before place (t ∷ ts)))
row_more best best' before place t ts now =
    let ps : List (List ℕ) = flagged_item (are_unordered before (row_address t)) place in
    let qs : List (List ℕ) = unordered_after (row_address t) (suc place) ts in
    ap (λ o. lesser o (least qs)) now ∙ sym (lesser-assoc best (least ps) (least qs)) ∙ ap (lesser best) (sym (least-append ps qs))
