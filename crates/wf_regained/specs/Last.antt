-- WHO WROTE LAST among rows, in whatever order these are.
use Rattle.std.specs.Prelude.{◌≡◌, ◌⊎◌, ℕ, Bool, true, false, not, cond, List, [], ◌∷◌, Option, Some, None, nat_eq, nat_lt, if◌then◌else◌}
use Rattle.wf_layers.specs.Address.{Address, SeenIn, Table}
use Rattle.wf_asks.specs.Instances.{address_of}
use Rattle.wf_asks.specs.declared.known.RowAt.{RowAt}
use Rattle.wf_def.specs.DefTree.{DefTree}
use Rattle.wf_loops.specs.Loops.{loops_of}
use Rattle.wf_record.specs.Record as record_of
use Rattle.wf_record.specs.declared.row.Row.{Row}
use Rattle.wf_turns.specs.Points.{graph_of, is_before}
use Rattle.wf_sight_laws.specs.Writes.{writes}
use Rattle.wf_sight_laws.specs.Seen.{row_content}

-- Of two instances, by the loops round each, outermost first, and by their indexes: the first loop round both in whose iterations they
-- differ decides; where there is none, whether the action of the one is before that of the other does.
abbrev pub is_later : (loops others at at' : List ℕ) → (before : Bool) → Bool
is_later (l ∷ ls) (m ∷ ms) (i ∷ is) (j ∷ js) before =
    if nat_eq l m then (if nat_eq i j then is_later ls ms is js before else nat_lt i j) else before
is_later loops others at at' before = before

-- whether y is later than x
abbrev pub comes_after : DefTree → Address → Address → Bool
comes_after d x y = is_later (loops_of (graph_of d) x.name) (loops_of (graph_of d) y.name) x.at y.at (is_before d x.name y.name)

-- the one that was the last so far stays it, where y isn't later
abbrev pub stays : DefTree → Option Address → Address → Bool
stays d None y = false
stays d (Some x) y = not (comes_after d x y)

abbrev pub last_of : DefTree → Option Address → Address → Option Address
last_of d last y = cond (stays d last y) last (Some y)

-- of several variables, one after the other, each with this writer more
abbrev pub each_last : DefTree → List ℕ → (ℕ → Option Address) → Address → ℕ → Option Address
each_last d [] last y v = last v
each_last d (u ∷ us) last y v = each_last d us (λ w. cond (nat_eq u w) (last_of d (last w) y) (last w)) y v

-- the last writer of the variable v, with one row more, and with several
module _ (d : DefTree) (v : ℕ) where
  abbrev pub with_row : Option Address → RowAt Row → Option Address
  with_row last r =
      cond (writes d v (address_of r.instance) (row_content r.row)) (last_of d last (address_of r.instance)) last

  abbrev pub last_from : Option Address → List (RowAt Row) → Option Address
  last_from last [] = last
  last_from last (r ∷ rs) = last_from (with_row last r) rs

-- Of each two that write a variable one sees the other.
abbrev pub AreInLine : DefTree → Table record_of.Row → Type 0
AreInLine d rows =
    (v : ℕ) (x y : Address) (q r : record_of.Row) → rows x ≡ Some q → rows y ≡ Some r → writes d v x q ≡ true → writes d v y r ≡ true
    → (x ≡ y) ⊎ (SeenIn (graph_of d) x y ⊎ SeenIn (graph_of d) y x)
