use Rattle.std.proofs.Common.{◌≡◌, map, drop}
use Rattle.wf_val.specs.Seen.{tree}
use Rattle.wf_folds.specs.Items.{items_more}
use Rattle.wf_folds.specs.UnitedSeen.{items_seen}
use Rattle.wf_folds.proofs.items.Items.with_all.Given as goal

-- the items so far, with those that are left, are all
abbrev pub invariant-loop-item : goal.invariant-loop-item
invariant-loop-item l =
    items_more (map tree (drop l.item-index l.item-items)) (items_seen l.items)
    ≡ items_more (map tree l.item-items) (items_seen l.fn.self)
