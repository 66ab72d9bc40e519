-- WHAT KEEPS AN ACTION FROM RUNNING beside its `runAfter`: a Terminate that is before it and Succeeded.
use Rattle.std.specs.Prelude.{ℕ, Bool, false, ◌&&◌, ◌||◌, List, [], ◌∷◌, filter, map}
use Rattle.wf_layers.specs.Address.{Address, Table, address}
use Rattle.wf_def.specs.ActionTree.{ActionTree, action_kind, action_number}
use Rattle.wf_record.specs.Record.{Row}
use Rattle.wf_closing.specs.Containers.{has_succeeded, is_terminate}
use Rattle.wf_order.specs.Table.{OrderTree, before}

-- where the Terminates among these stand: in no loop
abbrev pub terminates_in : List ActionTree → List Address
terminates_in as' = map (λ n. address n []) (map action_number (filter (λ a. is_terminate (action_kind a)) as'))

-- it is before the action y, and Succeeded
abbrev pub halts_by : OrderTree → ℕ → Table Row → Address → Bool
halts_by order y known x = before order x.name y && has_succeeded (known x)

abbrev pub any_halts : OrderTree → ℕ → Table Row → List Address → Bool
any_halts order y known [] = false
any_halts order y known (x ∷ xs) = halts_by order y known x || any_halts order y known xs
