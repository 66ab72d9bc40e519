-- THE FIRST IN THE ORDER of the actions at these addresses that have Succeeded. They stand in no loop, so the order of their numbers is
-- theirs.
use Rattle.std.specs.Prelude.{Bool, cond, List, [], ◌∷◌, Option, None, Some, filter, map}
use Rattle.wf_layers.specs.Address.{Address, Table, address}
use Rattle.wf_def.specs.ActionTree.{ActionTree, KindTree, action_kind, action_number}
use Rattle.wf_record.specs.Record.{Row}
use Rattle.wf_catalog.specs.Containers.{has_succeeded}
use Rattle.wf_order.specs.Table.{OrderTree, before}

-- where those of a kind stand
abbrev pub places_of : (KindTree → Bool) → List ActionTree → List Address
places_of is as' = map (λ n. address n []) (map action_number (filter (λ a. is (action_kind a)) as'))

-- the one so far, and one more
abbrev pub sooner_of : OrderTree → Option Address → Address → Address
sooner_of order None x = x
sooner_of order (Some best) x = cond (before order x.name best.name) x best

module _ (order : OrderTree) (known : Table Row) where
  abbrev pub better_of : Option Address → Address → Option Address
  better_of best x = cond (has_succeeded (known x)) (Some (sooner_of order best x)) best

  abbrev pub first_among : Option Address → List Address → Option Address
  first_among best [] = best
  first_among best (x ∷ xs) = first_among (better_of best x) xs

-- its row
abbrev pub row_of_place : Table Row → Option Address → Option Row
row_of_place known None = None
row_of_place known (Some x) = known x
