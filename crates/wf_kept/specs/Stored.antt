-- THE STORE OF A VARIABLE, in a reached state: what each leaf that ends writes over what was there, from none on as a run begins, and from
-- what the last kept writer wrote as an old record is gone on from.
--
-- It has its own list of events, as the state has (`specs/Reached`). An engine that keeps a state and several stores keeps a list for each,
-- and nothing says that they are one; nothing has to, since what is read of a store speaks of the state alone.
use Rattle.std.specs.Prelude.{◌≡◌, ℕ, Bool, true, cond, [], List, Option, None}
use Rattle.wf_layers.specs.Definition.{Graph, Kind, IsDepth, Closed}
use Rattle.wf_layers.specs.Address.{Address, Table, SeenIn, is_within}
use Rattle.wf_layers.specs.Source.{Source, Sound}
use Rattle.wf_layers.specs.Laws.{IsInstance}
use Rattle.wf_layers.specs.Machine.{State, Event, fresh}
use Rattle.wf_layers.specs.Resubmission.{IsOldTable, kept, pin}
use Rattle.wf_layers.specs.Resubmission as resubmission
use Rattle.wf_layers.specs.Variables.{Stores, IsLastWritten, HasOrder}

-- the rows of an old record that are kept
abbrev pub kept_rows : {Row : Type 0} → (ℕ → Bool) → (ℕ → Bool) → Table Row → Table Row
kept_rows redo again r x = cond (kept redo again x.name) (r x) None

pub data IsStored {Row Begun Decision Verdict Value : Type 0} (d : Graph) (depth : ℕ → ℕ) : Source Row Begun Decision Verdict
    → (Address → Row → Option Value) → State Row Begun Decision Verdict → Option Value → Type 0 where
  begun : {m : Source Row Begun Decision Verdict} {writes : Address → Row → Option Value} {s : State Row Begun Decision Verdict}
      {v : Option Value} (es : List Event) → IsInstance d m depth → Stores d m writes fresh es s None v → IsStored d depth m writes s v
  resumed : (a b : Source Row Begun Decision Verdict) {writes : Address → Row → Option Value} {s : State Row Begun Decision Verdict}
      {v : Option Value} (redo again : ℕ → Bool) (r : Table Row) (recall : Address → Decision) (first : Option Value) (es : List Event)
      → IsDepth d depth → Closed d d → Sound b (SeenIn d) d 0 → IsOldTable d a redo again r recall
      → IsLastWritten d (pin a b redo again r recall) writes (kept_rows redo again r) first
      → Stores d (pin a b redo again r recall) writes (resubmission.resumed d redo again r recall) es s first v
      → IsStored d depth (pin a b redo again r recall) writes s v

-- The action may read the variable: whatever may write to it, at any address of the definition, is in the action, ordered with it, or
-- excludes it. It asks for no run, so it can be judged before one.
abbrev pub MayRead : {Row Value : Type 0} → Graph → (Address → Row → Option Value) → ℕ → Kind → List ℕ → Type 0
MayRead {Row} d writes n kind i =
    (y : Address) (r : Row) → is_within d [] y ≡ true → (writes y r ≡ None → ⊥) → HasOrder d n kind i y
