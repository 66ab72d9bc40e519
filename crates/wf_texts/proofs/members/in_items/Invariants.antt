use Rattle.std.proofs.Common.{◌≡◌, [], ◌∷◌, drop, map, option_map, string_bytes}
use Rattle.wf_val.specs.Seen.{tree}
use Rattle.wf_val.specs.ValueTree.{trees}
use Rattle.wf_kinds.specs.Pointer.{lesser, least}
use Rattle.wf_texts.specs.Members.{along, in_items, to}
use Rattle.wf_texts.proofs.members.in_items.Given as goal

abbrev pub invariant-loop-place : goal.invariant-loop-place
invariant-loop-place l =
    lesser (option_map string_bytes l.best)
    (least (in_items (λ u. along (to l.name ∷ []) u) l.place (trees (map tree (drop l.place l.item-items)))))
    ≡ least (in_items (λ u. along (to l.name ∷ []) u) 0 (trees l.items))
