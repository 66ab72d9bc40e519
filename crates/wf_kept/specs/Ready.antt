-- The ready set, edited in place: an event looks anew at a few addresses, and leaves all others.
use Rattle.std.specs.Prelude.{◌≡◌, ℕ, Bool, true, false, [], List, None, ◌⊎◌}
use Rattle.wf_layers.specs.Definition.{Need, Kind, Graph}
use Rattle.wf_layers.specs.Address.{Address, address, Table}
use Rattle.wf_layers.specs.Source.{Source}
use Rattle.wf_layers.specs.Machine.{State, Event, IsThere}
use Rattle.wf_layers.specs.Enabled.{own_event, events}
use Rattle.wf_layers.specs.Changes.{may_change}

module _ {Row Begun Decision Verdict : Type 0} (d : Graph) (m : Source Row Begun Decision Verdict) where
  -- The set has the enabled events, each at its address.
  abbrev pub IsReady : State Row Begun Decision Verdict → Table Event → Type 0
  IsReady s ready = (x : Address) → ready x ≡ events m s d [] x

  -- The action at x stands in an open graph.
  abbrev pub Stands : State Row Begun Decision Verdict → Address → Type 0
  Stands s x = (after : List Need) × (kind : Kind) × IsThere d m s x.name x.at after kind

  -- Where the event may change what is enabled, the set has what the action's own rule gives in the new state, or none where the action
  -- stands in no open graph; elsewhere it is as before.
  pub record IsEdited (s : State Row Begun Decision Verdict) (e : Event) (s' : State Row Begun Decision Verdict) (ready new : Table Event)
      : Type 0 where
    pub looked : (n : ℕ) (i : List ℕ) (after : List Need) (kind : Kind) → IsThere d m s' n i after kind
        → may_change d s e (address n i) ≡ true → new (address n i) ≡ own_event m s' after kind n i
    pub outside : (x : Address) → may_change d s e x ≡ true → Stands s' x ⊎ (new x ≡ None)
    pub others : (x : Address) → may_change d s e x ≡ false → new x ≡ ready x

  -- The same by what an engine does: it looks anew at some addresses, R, and leaves the others. Each of R stands in an open graph of the
  -- new state, and each that stands there and may have changed is of R.
  pub record IsRefreshed (R : Address → Bool) (s : State Row Begun Decision Verdict) (e : Event) (s' : State Row Begun Decision Verdict)
      (ready new : Table Event) : Type 0 where
    pub looked : (n : ℕ) (i : List ℕ) (after : List Need) (kind : Kind) → IsThere d m s' n i after kind → R (address n i) ≡ true
        → new (address n i) ≡ own_event m s' after kind n i
    pub others : (x : Address) → R x ≡ false → new x ≡ ready x
    pub stands : (x : Address) → R x ≡ true → Stands s' x
    pub covers : (x : Address) → Stands s' x → may_change d s e x ≡ true → R x ≡ true
