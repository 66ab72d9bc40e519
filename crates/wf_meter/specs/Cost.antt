-- WHAT A STATE COSTS, by what its lists have: each row; each running leaf, for itself, for its attempts so far and by what it keeps of its
-- inputs; each open container, for itself, for iterations and by what it keeps of what it decided by.
use Rattle.std.specs.Prelude.{ℕ, ◌+◌, ◌*◌, List, Option, Some, None}
use Rattle.wf_layers.specs.Address.{Address}
use Rattle.wf_layers.specs.Definition.{Kind, Leaf, Scope, Choice, Foreach, Until, Graph, kind_of}
use Rattle.wf_layers.specs.Listed.{sum_of}
use Rattle.wf_layers.specs.Machine.{Opening, Running}
use Rattle.wf_tables.specs.Instances.{address_of}
use Rattle.wf_tables.specs.Known.{open_tree}
use Rattle.wf_tables.specs.OpenAt.{OpenAt}
use Rattle.wf_tables.specs.RowAt.{RowAt}
use Rattle.wf_tables.specs.Tables.{leaf_tree}
use Rattle.wf_tables.specs.declared.entries.LeafAt.{LeafAt}

-- a running leaf that keeps so much
abbrev pub leaf_cost : {Begun : Type 0} → (Begun → ℕ) → Running Begun → ℕ
leaf_cost weight w = 64 * (1 + w.tries) + weight w.begun

-- The iterations that an open container counts: those that it has begun, and of a Foreach all that it will have, from its opening on.
abbrev pub iterations : Option Kind → ℕ → ℕ → ℕ
iterations None items next = next
iterations (Some Leaf) items next = next
iterations (Some (Scope g)) items next = next
iterations (Some (Choice bs)) items next = next
iterations (Some (Foreach pace g)) items next = items
iterations (Some (Until most g)) items next = next

abbrev pub open_cost : {Decision Verdict : Type 0} → Graph → (Decision → ℕ) → (Decision → ℕ) → Address → Opening Decision Verdict → ℕ
open_cost d items weight x w = 64 * (1 + iterations (kind_of d x.name) (items w.decision) w.next) + weight w.decision

-- ---- all of them

abbrev pub rows_cost : {Row Kept : Type 0} → (Row → Kept) → (Kept → ℕ) → List (RowAt Row) → ℕ
rows_cost see cost rows = sum_of (λ r. cost (see r.row)) rows

abbrev pub running_cost : {Begun Started : Type 0} → (Begun → Started) → (Started → ℕ) → List (LeafAt Begun) → ℕ
running_cost see weight leaves = sum_of (λ l. leaf_cost weight (leaf_tree see l)) leaves

abbrev pub opens_cost : {Decision Verdict Decided Told : Type 0} → (Decision → Decided) → (Verdict → Told) → Graph → (Decided → ℕ)
    → (Decided → ℕ) → List (OpenAt Decision Verdict) → ℕ
opens_cost decided told d items weight opens =
    sum_of (λ o. open_cost d items weight (address_of o.instance) (open_tree decided told o)) opens
