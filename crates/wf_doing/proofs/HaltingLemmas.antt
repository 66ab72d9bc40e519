-- What halts an action is what its definition says.
use Rattle.std.proofs.Common.{◌≡◌, ℕ, Bool, true, false, ◌&&◌, ◌||◌, List, [], ◌∷◌, cond, filter, map, refl, ap}
use Rattle.wf_layers.specs.Address.{Table, address}
use Rattle.std.specs.List.{list_any}
use Rattle.wf_def.specs.ActionTree.{ActionTree, action_kind, action_number}
use Rattle.wf_def.specs.AllActions.{all_actions}
use Rattle.wf_def.specs.DefTree.{DefTree}
use Rattle.wf_def.specs.Names.{graph_names}
use Rattle.wf_record.specs.Record.{Row}
use Rattle.wf_closing.specs.Containers.{has_succeeded, is_terminate}
use Rattle.wf_closing.specs.Points.{graph_of}
use Rattle.wf_closing.specs.Source.{is_halted}
use Rattle.wf_order.specs.Table.{OrderTree, before, order_of}
use Rattle.wf_doing.specs.Halting.{any_halts, terminates_in}

halted_by : (order : OrderTree) (y : ℕ) (known : Table Row) (as' : List ActionTree)
    → any_halts order y known (terminates_in as')
    ≡ list_any (λ a. is_terminate (action_kind a) && before order (action_number a) y && has_succeeded (known (address (action_number a) []))) as'
halted_by order y known [] = refl
halted_by order y known (a ∷ as') = go (is_terminate (action_kind a)) (halted_by order y known as')
  where
    behind : Bool
    behind =
        list_any (λ a. is_terminate (action_kind a) && before order (action_number a) y && has_succeeded (known (address (action_number a) []))) as'

    go : (b : Bool) → any_halts order y known (terminates_in as') ≡ behind
        → any_halts order y known (map (λ n. address n []) (map action_number (cond b (a ∷ filter (λ a. is_terminate (action_kind a)) as')
        (filter (λ a. is_terminate (action_kind a)) as'))))
        ≡ ((b && before order (action_number a) y && has_succeeded (known (address (action_number a) []))) || behind)
    go true rest = ap (λ c. (before order (action_number a) y && has_succeeded (known (address (action_number a) []))) || c) rest
    go false rest = rest

pub halted_is : (d : DefTree) (n y : ℕ) (known : Table Row)
    → any_halts (order_of n (graph_of d)) y known (terminates_in (all_actions d.top))
    ≡ list_any (λ a. is_terminate (action_kind a) && before (order_of n (graph_of d)) (action_number a) y
    && has_succeeded (known (address (action_number a) []))) (all_actions d.top)
halted_is d n y known = halted_by (order_of n (graph_of d)) y known (all_actions d.top)
