-- The trees that a place and an order stand for.
use Rattle.std.specs.Prelude.{List, Option, map, option_map}
use Rattle.wf_order.specs.Table.{PlaceTree, OrderTree}
use Rattle.wf_order.specs.declared.place.Place.{Place}
use Rattle.wf_order.specs.declared.order.Order.{Order}

abbrev pub place_tree : Place → PlaceTree
place_tree p = record { up = p.up.items; stand = p.stand; after = p.after.items }

abbrev pub places_seen : List (Option Place) → List (Option PlaceTree)
places_seen ps = map (option_map place_tree) ps

abbrev pub order_tree : Order → OrderTree
order_tree o = record { paths = map (λ row. row.items) o.paths.items; places = places_seen o.places.items }
