-- The counts and the ready set of a state in which no leaf runs and no iteration has begun, by its rows and open containers.
use Rattle.std.specs.Prelude.{ℕ, suc, List, [], ◌∷◌, ◌++◌, cond, map, Option, Some, None}
use Rattle.wf_layers.specs.Address.{Address, Table, address}
use Rattle.wf_layers.specs.Machine as machine
use Rattle.wf_layers.specs.Machine.{Opening, has_ended}
use Rattle.wf_layers.specs.Source.{Source}
use Rattle.wf_layers.specs.Waiting.{waiting}
use Rattle.wf_enter.specs.OpenAt.{OpenAt}
use Rattle.wf_enter.specs.Plan.{PlanTree}
use Rattle.wf_enter.specs.PlanSeen.{or_none}
use Rattle.wf_enter.specs.Counts.{needs_at}
use Rattle.wf_enter.specs.CountAt.{CountAt}
use Rattle.wf_enter.specs.Looked.{idle_at, open_at}
use Rattle.wf_enter.specs.Graphs.{opened_at}

-- THE ACTIONS OF OPEN GRAPHS: those of the definition's own graph, and of each open container those of the graph that it has entered.
module _ {Decision Verdict Decided : Type 0} (p : PlanTree) (decided : Decision → Decided) (taken : Decided → ℕ) where
  abbrev pub entered_by : OpenAt Decision Verdict → List ℕ
  entered_by o = or_none (opened_at p o.instance.action (taken (decided o.decision)))

  abbrev pub all_entered : List (OpenAt Decision Verdict) → List ℕ
  all_entered [] = []
  all_entered (o ∷ os) = entered_by o ++ all_entered os

  abbrev pub standing : List (OpenAt Decision Verdict) → List ℕ
  standing opens = p.top ++ all_entered opens

-- how many of these actions have no row at the indexes
abbrev pub lacking_of : {Row : Type 0} → Table Row → List ℕ → List ℕ → ℕ
lacking_of rows at [] = 0
lacking_of rows at (n ∷ ns) = cond (has_ended (rows (address n at))) (lacking_of rows at ns) (suc (lacking_of rows at ns))

-- how much an action waits for
abbrev pub waits_at : {Row : Type 0} → PlanTree → Table Row → Address → ℕ
waits_at p rows x = waiting (needs_at p x.name) x.at rows

-- how many actions of the graph that a container has entered have no row; of what isn't open none
module _ {Row Decision Verdict : Type 0} (p : PlanTree) (taken : Decision → ℕ) (rows : Table Row) where
  abbrev pub lacks_by : Option (Opening Decision Verdict) → Address → ℕ
  lacks_by None x = 0
  lacks_by (Some w) x = lacking_of rows x.at (or_none (opened_at p x.name (taken w.decision)))

  abbrev pub lacks_at : Table (Opening Decision Verdict) → Address → ℕ
  lacks_at opens x = lacks_by (opens x) x

-- of these actions at the indexes so much is counted
abbrev pub counts_at : (Address → ℕ) → List ℕ → List ℕ → List CountAt
counts_at count at numbers = map (λ n. record { instance = record { action = n; at = at }; count = count (address n at) }) numbers

-- WHAT MAY HAPPEN NEXT to an action of an open graph, where no leaf runs: nothing to one that has its row
module _ {Row Begun Decision Verdict : Type 0} (m : Source Row Begun Decision Verdict) (p : PlanTree) (rows : Table Row)
    (opens : Table (Opening Decision Verdict)) (waits lacks : Table ℕ) (left : Address → ℕ) where
  abbrev pub resting_by : Option Row → Option (Opening Decision Verdict) → Address → Option machine.Event
  resting_by (Some r) o x = None
  resting_by None None x = idle_at m rows waits p x
  resting_by None (Some w) x = open_at m opens lacks left p x

  abbrev pub resting_at : Address → Option machine.Event
  resting_at x = resting_by (rows x) (opens x) x
