-- THE STATES THAT ARE REACHED: those to which a run leads from the state of a run that begins, or from that of a resubmission of an old
-- table. The laws hold of both, so that an engine needs no second proof to go on from an old record.
use Rattle.std.specs.Prelude.{◌≡◌, ℕ, Bool, List, None}
use Rattle.wf_layers.specs.Definition.{Kind, Leaf, Scope, Choice, Foreach, Until, Graph, IsDepth, Closed}
use Rattle.wf_layers.specs.Address.{Address, Table, SeenIn}
use Rattle.wf_layers.specs.Source.{Source, Sound}
use Rattle.wf_layers.specs.Laws.{IsInstance}
use Rattle.wf_layers.specs.Machine.{State, Event, Run, fresh}
use Rattle.wf_layers.specs.Resubmission.{IsOldTable, pin}
use Rattle.wf_layers.specs.Resubmission as resubmission

pub data IsReached {Row Begun Decision Verdict : Type 0} (d : Graph) (depth : ℕ → ℕ) : Source Row Begun Decision Verdict
    → State Row Begun Decision Verdict → Type 0 where
  begun : {m : Source Row Begun Decision Verdict} {s : State Row Begun Decision Verdict} (es : List Event) → IsInstance d m depth
      → Run d m fresh es s → IsReached d depth m s
  resumed : (a b : Source Row Begun Decision Verdict) {s : State Row Begun Decision Verdict} (redo again : ℕ → Bool) (r : Table Row)
      (recall : Address → Decision) (es : List Event) → IsDepth d depth → Closed d d → Sound b (SeenIn d) d 0
      → IsOldTable d a redo again r recall
      → Run d (pin a b redo again r recall) (resubmission.resumed d redo again r recall) es s
      → IsReached d depth (pin a b redo again r recall) s

-- What has the tables of the state of a resubmission, address by address.
pub record IsAsResumed {Row Begun Decision Verdict : Type 0} (d : Graph) (redo again : ℕ → Bool) (r : Table Row)
    (recall : Address → Decision) (s : State Row Begun Decision Verdict) : Type 0 where
  pub rows : (x : Address) → s.rows x ≡ (resubmission.resumed {Begun = Begun} {Verdict = Verdict} d redo again r recall).rows x
  pub running : (x : Address) → s.running x ≡ None
  pub opens : (x : Address) → s.opens x ≡ (resubmission.resumed {Begun = Begun} {Verdict = Verdict} d redo again r recall).opens x

-- THE STATE FROM WHICH AN OLD RECORD IS GONE ON, by a source that is pinned to it: nothing has happened there yet.
pub data IsResumption {Row Begun Decision Verdict : Type 0} (d : Graph) (depth : ℕ → ℕ) : Source Row Begun Decision Verdict
    → State Row Begun Decision Verdict → Type 0 where
  resumption : (a b : Source Row Begun Decision Verdict) {s : State Row Begun Decision Verdict} (redo again : ℕ → Bool) (r : Table Row)
      (recall : Address → Decision) → IsDepth d depth → Closed d d → Sound b (SeenIn d) d 0 → IsOldTable d a redo again r recall
      → IsAsResumed d redo again r recall s → IsResumption d depth (pin a b redo again r recall) s

-- What is open there is a Scope or a Choice.
abbrev pub IsNoLoop : Kind → Type 0
IsNoLoop Leaf = ⊥
IsNoLoop (Scope g) = Unit {0}
IsNoLoop (Choice bs) = Unit {0}
IsNoLoop (Foreach pace g) = ⊥
IsNoLoop (Until most g) = ⊥
