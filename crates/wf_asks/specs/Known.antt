-- What is known as an action is asked something, and what holds of it.
use Rattle.std.specs.Prelude.{◌≡◌, ◌<◌, ℕ, Bool, true, false, ◌||◌, cond, nat_eq, List, [], ◌∷◌, Option, Some, None, option_map}
use Rattle.std.specs.Ordering.{nat_cmp}
use Rattle.wf_lists.specs.KeyOrder.{find_key}
use Rattle.wf_layers.specs.Address.{Address, Table, address, is_within, SeenIn}
use Rattle.wf_layers.specs.Definition.{Graph, Kind, Need, Until}
use Rattle.wf_layers.specs.Machine.{In, IsOpen, Opening}
use Rattle.wf_layers.specs.Meaning.{meaning}
use Rattle.wf_layers.specs.Source.{Source}
use Rattle.wf_layers.specs.Variables.{HasOrder, IsLastSeen, SeenByTest}
use Rattle.wf_asks.specs.Instances.{address_of, table_of}
use Rattle.wf_asks.specs.declared.known.OpenAt.{OpenAt}
use Rattle.wf_asks.specs.declared.known.WriterAt.{WriterAt}

abbrev pub is_among : ℕ → List ℕ → Bool
is_among n [] = false
is_among n (m ∷ ms) = nat_eq m n || is_among n ms

-- open containers as a table of the machine
abbrev pub open_tree : {Decision Verdict Decided Told : Type 0} → (Decision → Decided) → (Verdict → Told) → OpenAt Decision Verdict
    → Opening Decided Told
open_tree decided told o = record { decision = decided o.decision; next = o.next; test = option_map told o.test }

abbrev pub opens_in : {Decision Verdict Decided Told : Type 0} → (Decision → Decided) → (Verdict → Told)
    → List (OpenAt Decision Verdict) → Table (Opening Decided Told)
opens_in {Decision} {Verdict} decided told = table_of (λ (o : OpenAt Decision Verdict). o.instance) (open_tree decided told)

-- where the last writer of a variable stands
abbrev pub store_in : List WriterAt → ℕ → Option Address
store_in store v = option_map (λ (w : WriterAt). address_of w.instance) (find_key nat_cmp (λ (w : WriterAt). w.variable) v store)

-- What a row writes to a variable, as the laws ask for it: its address stands for the value.
abbrev pub writer : {Row : Type 0} → (ℕ → Address → Row → Bool) → ℕ → Address → Row → Option Address
writer writes v y r = cond (writes v y r) (Some y) None

module _ {Row Begun Decision Verdict : Type 0} (d : Graph) (depth : ℕ → ℕ) (m : Source Row Begun Decision Verdict) where
  -- Of an action that starts, opens, ends or closes: it stands in an open graph, all that it sees is there as the definition means it, and
  -- what open containers keep is what they would decide by these rows.
  pub record IsInformed (rows : Table Row) (opens : Table (Opening Decision Verdict)) (n : ℕ) (i : List ℕ) (kind : Kind) : Type 0 where
    pub graph : Graph
    pub after : List Need
    pub is_open : IsOpen m.taken d opens graph i
    pub is_in : In graph n after kind
    pub there : (y : Address) → SeenIn d (address n i) y → rows y ≡ meaning m depth d y
    pub decided : (x : Address) (w : Opening Decision Verdict) → opens x ≡ Some w → w.decision ≡ m.decide x rows

  -- Of an Until that is tested after the iteration of an index: it is open, and it sees that iteration, too.
  pub record IsInformedAtTest (rows : Table Row) (opens : Table (Opening Decision Verdict)) (n : ℕ) (i : List ℕ) (most : ℕ) (g : Graph)
      (j : ℕ) : Type 0 where
    pub graph : Graph
    pub after : List Need
    pub is_open : IsOpen m.taken d opens graph i
    pub is_in : In graph n after (Until most g)
    pub opening : Opening Decision Verdict
    pub itself_is_open : opens (address n i) ≡ Some opening
    pub begun : j < opening.next
    pub there : (y : Address) → SeenByTest d n i g j y → rows y ≡ meaning m depth d y
    pub decided : (x : Address) (w : Opening Decision Verdict) → opens x ≡ Some w → w.decision ≡ m.decide x rows

  module _ (writes : ℕ → Address → Row → Bool) where
    -- Each that may write to the variable, at whatever address, is in the action, ordered with it, or excludes it: so the action may read
    -- it.
    abbrev pub MayRead : ℕ → ℕ → Kind → List ℕ → Type 0
    MayRead v n kind i = (y : Address) (r : Row) → is_within d [] y ≡ true → writes v y r ≡ true → HasOrder d n kind i y

    -- The store has the last writer that the action sees, of each variable that it may read.
    abbrev pub HoldsLast : Table Row → (ℕ → Option Address) → ℕ → Kind → List ℕ → Type 0
    HoldsLast rows store n kind i =
        (v : ℕ) → MayRead v n kind i → IsLastSeen d m (writer writes v) rows (SeenIn d (address n i)) (store v)

    -- And that which an Until's test sees.
    abbrev pub HoldsLastAtTest : Table Row → (ℕ → Option Address) → ℕ → ℕ → Graph → List ℕ → ℕ → Type 0
    HoldsLastAtTest rows store n most g i j =
        (v : ℕ) → MayRead v n (Until most g) i → IsLastSeen d m (writer writes v) rows (SeenByTest d n i g j) (store v)
