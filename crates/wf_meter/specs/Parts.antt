-- Sums over lists of a state, by what stands at some instances.
use Rattle.std.specs.Prelude.{ℕ, ◌+◌, ◌*◌, Bool, false, true, List, [], ◌∷◌, Option, Some, None}
use Rattle.wf_val.specs.Cut.{cut_u64}
use Rattle.wf_layers.specs.Address.{Address, Table, address}
use Rattle.wf_layers.specs.Listed.{sum_of}
use Rattle.wf_layers.specs.Machine.{Opening, Running, Event, Start, Try, End, Skip, Open, Begin, Test, Close}
use Rattle.wf_tables.specs.Instances.{address_of}
use Rattle.wf_tables.specs.Known.{open_tree}
use Rattle.wf_tables.specs.OpenAt.{OpenAt}
use Rattle.wf_tables.specs.RowAt.{RowAt}
use Rattle.wf_tables.specs.Plan.{EntryTree, PlanTree, ShapeTree, leaf, scope, choice, foreach, until}
use Rattle.wf_tables.specs.PlanSeen.{at_place}
use Rattle.wf_tables.specs.Tables.{leaf_tree}
use Rattle.wf_tables.specs.declared.entries.LeafAt.{LeafAt}
use Rattle.wf_meter.specs.Cost.{leaf_cost}

module _ {Y : Type 0} (w : Address → Y → ℕ) where
  -- what an entry is worth, if there is one
  abbrev pub worth : Address → Option Y → ℕ
  worth x None = 0
  worth x (Some y) = w x y

  -- and those of these actions at the indexes together
  abbrev pub block_worth : Table Y → List ℕ → List ℕ → ℕ
  block_worth t i [] = 0
  block_worth t i (n ∷ ns) = worth (address n i) (t (address n i)) + block_worth t i ns

abbrev pub block_or_none : Option EntryTree → List ℕ
block_or_none None = []
block_or_none (Some e) = e.block

-- The action, and all inside it that stand in no loop there: an event at the action gives rows to no others.
abbrev pub block_of : PlanTree → ℕ → List ℕ
block_of p n = block_or_none (at_place p.entries n)

-- ---- open containers, by what a plan has of them

abbrev pub shape_iterations : ShapeTree → ℕ → ℕ → ℕ
shape_iterations leaf items next = next
shape_iterations (scope g) items next = next
shape_iterations (choice bs) items next = next
shape_iterations (foreach pace g) items next = items
shape_iterations (until most g) items next = next

abbrev pub iterations_by : Option EntryTree → ℕ → ℕ → ℕ
iterations_by None items next = next
iterations_by (Some e) items next = shape_iterations e.shape items next

-- for itself and for its iterations, without what it keeps of what it decided by
abbrev pub turns_cost : {Decision Verdict : Type 0} → PlanTree → (Decision → ℕ) → Address → Opening Decision Verdict → ℕ
turns_cost p items x w = 64 * (1 + iterations_by (at_place p.entries x.name) (items w.decision) w.next)

-- Whether an event opens or closes a container. As any other event is taken, what open containers decided by stays as it was.
abbrev pub decides : Event → Bool
decides (Start n i) = false
decides (Try n i) = false
decides (End n i) = false
decides (Skip n i) = false
decides (Open n i) = true
decides (Begin n i) = false
decides (Test n i) = false
decides (Close n i) = true

-- Whether an event gives rows.
abbrev pub gives_rows : Event → Bool
gives_rows (Start n i) = false
gives_rows (Try n i) = false
gives_rows (End n i) = true
gives_rows (Skip n i) = true
gives_rows (Open n i) = true
gives_rows (Begin n i) = false
gives_rows (Test n i) = false
gives_rows (Close n i) = true

-- Whether an event changes which leaves run, or how many attempts one of them has made.
abbrev pub moves_leaves : Event → Bool
moves_leaves (Start n i) = true
moves_leaves (Try n i) = true
moves_leaves (End n i) = true
moves_leaves (Skip n i) = false
moves_leaves (Open n i) = false
moves_leaves (Begin n i) = false
moves_leaves (Test n i) = false
moves_leaves (Close n i) = false

-- Whether an event changes which containers are open, or how far one of them has come.
abbrev pub moves_containers : Event → Bool
moves_containers (Start n i) = false
moves_containers (Try n i) = false
moves_containers (End n i) = false
moves_containers (Skip n i) = false
moves_containers (Open n i) = true
moves_containers (Begin n i) = true
moves_containers (Test n i) = true
moves_containers (Close n i) = true

-- ---- the parts that sums are kept of, each cut to the greatest u64

abbrev pub row_part : {Row : Type 0} → (Row → ℕ) → Address → Row → ℕ
row_part cost x r = cut_u64 (cost r)

abbrev pub leaf_part : {Begun : Type 0} → (Begun → ℕ) → Address → Running Begun → ℕ
leaf_part weight x w = cut_u64 (leaf_cost weight w)

abbrev pub turns_part : {Decision Verdict : Type 0} → PlanTree → (Decision → ℕ) → Address → Opening Decision Verdict → ℕ
turns_part p items x w = cut_u64 (turns_cost p items x w)

-- what an open container keeps of what it decided by
abbrev pub decision_part : {Decision Verdict : Type 0} → (Decision → ℕ) → Address → Opening Decision Verdict → ℕ
decision_part weight x w = cut_u64 (weight w.decision)

-- ---- the sums

abbrev pub rows_sum : {Row Kept : Type 0} → (Row → Kept) → (Kept → ℕ) → List (RowAt Row) → ℕ
rows_sum see cost rows = sum_of (λ r. row_part cost (address_of r.instance) (see r.row)) rows

abbrev pub leaves_sum : {Begun Started : Type 0} → (Begun → Started) → (Started → ℕ) → List (LeafAt Begun) → ℕ
leaves_sum started weight leaves = sum_of (λ l. leaf_part weight (address_of l.instance) (leaf_tree started l)) leaves

abbrev pub turns_sum : {Decision Verdict Decided Told : Type 0} → (Decision → Decided) → (Verdict → Told) → PlanTree → (Decided → ℕ)
    → List (OpenAt Decision Verdict) → ℕ
turns_sum decided told p items opens = sum_of (λ o. turns_part p items (address_of o.instance) (open_tree decided told o)) opens

abbrev pub decisions_sum : {Decision Verdict Decided Told : Type 0} → (Decision → Decided) → (Verdict → Told) → (Decided → ℕ)
    → List (OpenAt Decision Verdict) → ℕ
decisions_sum decided told weight opens =
    sum_of (λ o. decision_part weight (address_of o.instance) (open_tree decided told o)) opens
