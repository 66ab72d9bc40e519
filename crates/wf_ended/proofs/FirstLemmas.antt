-- The first in the order by addresses is the first in the order by actions.
use Rattle.std.proofs.Common.{◌≡◌, Bool, true, false, ◌&&◌, cond, List, [], ◌∷◌, Option, Some, None, option_map, filter, length}
use Rattle.std.proofs.Common.{map, refl, ap, ◌∙◌}
use Rattle.wf_layers.specs.Address.{Address, Table, address}
use Rattle.wf_def.specs.ActionTree.{ActionTree, KindTree, action_kind, action_number}
use Rattle.wf_def.specs.AllActions.{all_actions}
use Rattle.wf_def.specs.DefTree.{DefTree}
use Rattle.wf_def.specs.Names.{graph_names}
use Rattle.wf_record.specs.Record.{Row}
use Rattle.wf_order.specs.Table.{OrderTree, order_of}
use Rattle.wf_catalog.specs.Containers.{has_succeeded}
use Rattle.wf_catalog.specs.Points.{graph_of, is_before}
use Rattle.wf_catalog.specs.Record.{first_from, first_succeeded, row_found, row_outside, sooner}
use Rattle.wf_ended.specs.First.{first_among, places_of, row_of_place, sooner_of}

abbrev place : ActionTree → Address
place a = address (action_number a) []

module _ (d : DefTree) (is : KindTree → Bool) (known : Table Row) where
  abbrev order : OrderTree
  order = order_of (length (graph_names d.top)) (graph_of d)

  -- of this kind, and Succeeded
  abbrev counts : ActionTree → Bool
  counts a = is (action_kind a) && has_succeeded (row_outside known a)

  sooner_is : (best : Option ActionTree) (a : ActionTree)
      → Some (sooner_of order (option_map place best) (place a)) ≡ option_map place (sooner d best a)
  sooner_is None a = refl
  sooner_is (Some b) a = go (is_before d (action_number a) (action_number b))
    where
      go : (c : Bool) → Some (cond c (place a) (place b)) ≡ option_map place (cond c (Some a) (Some b))
      go true = refl
      go false = refl

  abbrev Found : Option ActionTree → List ActionTree → Type 0
  Found best as' =
      first_among order known (option_map place best) (places_of is as') ≡ option_map place (first_from d best (filter counts as'))

  succeeded : (best : Option ActionTree) (a : ActionTree) (as' : List ActionTree) (c : Bool) → Found best as' → Found (sooner d best a) as'
      → first_among order known (cond c (Some (sooner_of order (option_map place best) (place a))) (option_map place best))
      (places_of is as')
      ≡ option_map place (first_from d best (cond c (a ∷ filter counts as') (filter counts as')))
  succeeded best a as' false old new = old
  succeeded best a as' true old new =
      ap (λ (o : Option Address). first_among order known o (places_of is as')) (sooner_is best a) ∙ new

  of_kind : (best : Option ActionTree) (a : ActionTree) (as' : List ActionTree) (b : Bool) → Found best as' → Found (sooner d best a) as'
      → first_among order known (option_map place best)
      (map (λ n. address n [])
      (map action_number (cond b (a ∷ filter (λ x. is (action_kind x)) as') (filter (λ x. is (action_kind x)) as'))))
      ≡ option_map place (first_from d best
      (cond (b && has_succeeded (row_outside known a)) (a ∷ filter counts as') (filter counts as')))
  of_kind best a as' false old new = old
  of_kind best a as' true old new = succeeded best a as' (has_succeeded (row_outside known a)) old new

  first_is : (best : Option ActionTree) (as' : List ActionTree) → Found best as'
  first_is best [] = refl
  first_is best (a ∷ as') = of_kind best a as' (is (action_kind a)) (first_is best as') (first_is (sooner d best a) as')

  row_is : (best : Option ActionTree) → row_of_place known (option_map place best) ≡ row_found known best
  row_is None = refl
  row_is (Some a) = refl

  pub first_row : (o : OrderTree) (xs : List Address) → o ≡ order → xs ≡ places_of is (all_actions d.top)
      → row_of_place known (first_among o known None xs) ≡ first_succeeded d is known
  first_row o xs same these =
      ap (λ (p : OrderTree). row_of_place known (first_among p known None xs)) same
      ∙ ap (λ (ys : List Address). row_of_place known (first_among order known None ys)) these
      ∙ ap (row_of_place known) (first_is None (all_actions d.top))
      ∙ row_is (first_from d None (filter counts (all_actions d.top)))
