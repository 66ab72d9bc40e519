-- Instances of actions: their order, and lists by instances as tables.
use Rattle.std.specs.Prelude.{ℕ, List, ◌∷◌, Bool, option_map}
use Rattle.std.specs.Cmp.{IsTotalOrder}
use Rattle.std.specs.Cmp.Lexicographic.{slice_cmp}
use Rattle.std.specs.Ordering.{nat_cmp, eq_by_cmp}
use Rattle.std.specs.declared.cmp.Ordering.{Ordering}
use Rattle.std.proofs.lemmas.Cmp.{on_total, nat_list_cmp_total}
use Rattle.wf_lists.specs.KeyOrder.{find_key}
use Rattle.wf_layers.specs.Address.{Address, Table, address}
use Rattle.wf_asks.specs.declared.instance.Instance.{Instance}
use Rattle.wf_asks.specs.declared.known.RowAt.{RowAt}

-- the list by which an instance is ordered, and the order: by the number of the action, and then by those of iterations, where a front of
-- a list is below it
abbrev pub instance_key : Instance → List ℕ
instance_key a = a.action ∷ a.at

abbrev pub instance_cmp : Instance → Instance → Ordering
instance_cmp a b = slice_cmp nat_cmp (instance_key a) (instance_key b)

abbrev pub instance_eq : Instance → Instance → Bool
instance_eq = eq_by_cmp instance_cmp

pub instance_total : IsTotalOrder instance_cmp
instance_total = on_total instance_key nat_list_cmp_total

-- an instance is an address of the laws of order, and the other way round
abbrev pub address_of : Instance → Address
address_of a = address a.action a.at

abbrev pub instance_of : Address → Instance
instance_of x = record { action = x.name; at = x.at }

-- a list whose entries have instances, as a table of what is seen of them
abbrev pub table_of : {Entry Seen : Type 0} → (Entry → Instance) → (Entry → Seen) → List Entry → Table Seen
table_of place see entries x = option_map see (find_key instance_cmp place (instance_of x) entries)

abbrev pub rows_in : {Row Seen : Type 0} → (Row → Seen) → List (RowAt Row) → Table Seen
rows_in {Row} see = table_of (λ (r : RowAt Row). r.instance) (λ (r : RowAt Row). see r.row)
