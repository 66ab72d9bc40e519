-- What an engine finds as it looks at idle actions, and at open containers.
use Rattle.std.specs.Prelude.{ℕ, cond, List, [], ◌∷◌, Option, None, Some, map, option_map}
use Rattle.wf_layers.specs.Address.{Address, Table, is_own}
use Rattle.wf_layers.specs.Machine as machine
use Rattle.wf_layers.specs.Source.{Source}
use Rattle.wf_tables.specs.Instances.{address_of}
use Rattle.wf_tables.specs.Instance.{Instance}
use Rattle.wf_tables.specs.Plan.{EntryTree, PlanTree}
use Rattle.wf_tables.specs.PlanSeen.{at_place}
use Rattle.wf_events.specs.Events.{idle_kind, open_kind}
use Rattle.wf_tables.specs.Tables.{event_at}

-- these actions at the indexes
abbrev pub instances_at : List ℕ → List ℕ → List Instance
instances_at at numbers = map (λ n. record { action = n; at = at }) numbers

module _ {Row Begun Decision Verdict : Type 0} (m : Source Row Begun Decision Verdict) (rows : Table Row) (waits : Table ℕ) where
  abbrev pub idle_by : Option EntryTree → ℕ → List ℕ → Option machine.Event
  idle_by None n i = None
  idle_by (Some e) n i = option_map (λ k. event_at k n i) (idle_kind m rows waits e.after e.shape n i)

  -- what may happen next to an action of a plan that is idle
  abbrev pub idle_at : PlanTree → Address → Option machine.Event
  idle_at p x = idle_by (at_place p.entries x.name) x.name x.at

module _ {Row Begun Decision Verdict : Type 0} (m : Source Row Begun Decision Verdict) where
  abbrev pub open_by : Option EntryTree → Option (machine.Opening Decision Verdict) → Table ℕ → ℕ → ℕ → List ℕ → Option machine.Event
  open_by None o lacks left n i = None
  open_by (Some e) None lacks left n i = None
  open_by (Some e) (Some w) lacks left n i = option_map (λ k. event_at k n i) (open_kind m lacks left e.shape n i w)

  -- what may happen next to a container of a plan that is open
  abbrev pub open_at : Table (machine.Opening Decision Verdict) → Table ℕ → (Address → ℕ) → PlanTree → Address → Option machine.Event
  open_at opens lacks left p x = open_by (at_place p.entries x.name) (opens x) lacks (left x) x.name x.at

-- one looked at after the other
abbrev pub look_each : (Address → Option machine.Event) → List Instance → Table machine.Event → Table machine.Event
look_each look [] t x = t x
look_each look (p ∷ ps) t x = look_each look ps (λ y. cond (is_own p.action p.at y) (look (address_of p)) (t y)) x
