-- What a Start and a Try make of what a state keeps.
use Rattle.std.proofs.Common.{◌≡◌, ℕ, suc, ◌<◌, Bool, true, false, cond, List, Option, Some, None, option_map, true≢false, inl, nat_lt, refl, sym, ap, ◌∙◌, subst}
use Rattle.std.proofs.lemmas.Option.{none-some}
use Rattle.wf_lists.specs.KeyOrder.{IsInKeyOrder, find_key, put_key, without_key}
use Rattle.wf_layers.specs.Definition.{Need, Kind, Leaf, Graph}
use Rattle.wf_layers.specs.Address.{Address, Table, address, is_own}
use Rattle.wf_layers.specs.Enabled.{own_event, of_busy}
use Rattle.wf_layers.specs.Machine as machine
use Rattle.wf_layers.specs.Machine.{State, Event, place_of, place, one, without, or_else, has_ended, IsThere, Step}
use Rattle.wf_layers.specs.Source.{Source}
use Rattle.wf_layers.specs.Variables.{written}
use Rattle.wf_layers.proofs.Basics.{when, unless}
use Rattle.wf_layers.proofs.Tables.{own_self}
use Rattle.wf_kept.specs.Quiet.{is_quiet}
use Rattle.wf_kept.specs.Stored.{IsStored}
use Rattle.wf_kept.proofs.Stored.{store_goes_on}
use Rattle.wf_kept.proofs.Known.{Known, known, goes_on}
use Rattle.wf_kept.proofs.Quiet.{counts_stay, left_stays, ready_but_own}
use Rattle.wf_events.specs.Instances.{address_of, instance_cmp, rows_in}
use Rattle.wf_events.specs.Known.{opens_in, store_in, writer}
use Rattle.wf_events.specs.Instance.{Instance}
use Rattle.wf_events.specs.RowAt.{RowAt}
use Rattle.wf_events.specs.WriterAt.{WriterAt}
use Rattle.wf_steps.specs.Kept.{Goes, IsEnabled, IsKept}
use Rattle.wf_events.specs.Tables.{count_in, event_tree, events_in, leaf_tree, left_in, running_in, state_of}
use Rattle.wf_events.specs.CountAt.{CountAt}
use Rattle.wf_events.specs.EventAt.{EventAt}
use Rattle.wf_events.specs.EventKind.{EventKind}
use Rattle.wf_events.specs.EventKind.TheVariants.{Try, End}
use Rattle.wf_events.specs.LeafAt.{LeafAt}
use Rattle.wf_events.specs.OpenAt.{OpenAt}
use Rattle.wf_events.proofs.TablesTableLemmas.{table_put, table_take}

some_is : {A : Type 0} {u v : A} → Some u ≡ Some v → u ≡ v
some_is e = cc (e)

-- an entry that is placed is found there, and no other changes
placed_own : {A : Type 0} (n : ℕ) (i : List ℕ) (v : A) (t : Table A) → place (one n i v) t (address n i) ≡ Some v
placed_own n i v t = ap (λ o. or_else o (t (address n i))) (when (is_own n i (address n i)) (Some v) None (own_self n i))

placed_else : {A : Type 0} (n : ℕ) (i : List ℕ) (v : A) (t : Table A) (x : Address) → is_own n i x ≡ false → place (one n i v) t x ≡ t x
placed_else n i v t x u = ap (λ o. or_else o (t x)) (unless (is_own n i x) (Some v) None u)

-- an entry that takes another's place
placed_over : {A : Type 0} (n : ℕ) (i : List ℕ) (v : A) (t : Table A) → place (one n i v) (without n i t) ≡ place (one n i v) t
placed_over {A} n i v t = λ k x. at x k
  where
    at : (x : Address) → place (one n i v) (without n i t) x ≡ place (one n i v) t x
    at x = go (is_own n i x)
      where
        go : (b : Bool) → or_else (cond b (Some v) None) (cond b None (t x)) ≡ or_else (cond b (Some v) None) (t x)
        go true = refl
        go false = refl

-- a quiet event writes nothing
quiet_writes : {Row Begun Decision Verdict Value : Type 0} (d : Graph) (m : Source Row Begun Decision Verdict)
    (writes : Address → Row → Option Value) (e : Event) (s : State Row Begun Decision Verdict) (v : Option Value) → is_quiet e ≡ true
    → written d m writes e s v ≡ v
quiet_writes d m writes (machine.Start n i) s v q = refl
quiet_writes d m writes (machine.Try n i) s v q = refl
quiet_writes d m writes (machine.Test n i) s v q = refl
quiet_writes d m writes (machine.End n i) s v q = absurd (true≢false (sym q))
quiet_writes d m writes (machine.Skip n i) s v q = absurd (true≢false (sym q))
quiet_writes d m writes (machine.Open n i) s v q = absurd (true≢false (sym q))
quiet_writes d m writes (machine.Begin n i) s v q = absurd (true≢false (sym q))
quiet_writes d m writes (machine.Close n i) s v q = absurd (true≢false (sym q))

-- a quiet event after which the action has another event
module _ {Row Begun Decision Verdict Decided Told : Type 0} (d : Graph) (m : Source Row Begun Decision Verdict) (depth : ℕ → ℕ)
    (writes : ℕ → Address → Row → Bool) (s : State Row Begun Decision Verdict) (opens : List (OpenAt Decided Told)) (store : List WriterAt)
    (waits lacks : List CountAt) (ready : List EventAt) (kept : IsKept d m depth writes s opens store waits lacks ready)
    (e : Event) (s' : State Row Begun Decision Verdict) (st : Step d m s e s')
    (quiet : is_quiet e ≡ true) where
  quiet_kept : (next : EventAt) → place_of e ≡ address_of next.instance → (after : List Need) (kind : Kind)
      → IsThere d m s' (place_of e).name (place_of e).at after kind
      → own_event m s' after kind (place_of e).name (place_of e).at ≡ Some (event_tree next)
      → IsKept d m depth writes s' opens store waits lacks (put_key instance_cmp (λ (x : EventAt). x.instance) next ready)
  quiet_kept next at after kind th own = record {
    reached = goes_on d depth m s kept.reached e s' st;
    counts = counts_stay d depth m s kept.reached e s' st quiet (count_in waits) (count_in lacks) kept.counts;
    left =
        left_stays d depth m s kept.reached e s' st quiet (count_in waits) (count_in lacks) (left_in opens) kept.counts kept.left;
    enabled =
        ready_but_own d depth m s kept.reached e s' st quiet (events_in ready) new kept.enabled after kind th
        (ap new at ∙ ap (λ t. t (address n i)) placed ∙ placed_own n i (event_tree next) (events_in ready) ∙ sym own)
        (λ x u. ap (λ t. t x) placed
        ∙ placed_else n i (event_tree next) (events_in ready) x (subst (λ (y : Address). is_own y.name y.at x ≡ false) at u));
    stored = λ v. subst (IsStored d depth m (writer writes v) s')
        (quiet_writes d m (writer writes v) e s' (store_in store v) quiet)
        (store_goes_on d depth m (writer writes v) s (store_in store v) (kept.stored v) e s' st);
  }
    where
      n : ℕ
      n = next.instance.action

      i : List ℕ
      i = next.instance.at

      new : Table Event
      new = events_in (put_key instance_cmp (λ (x : EventAt). x.instance) next ready)

      placed : new ≡ place (one n i (event_tree next)) (events_in ready)
      placed = table_put (λ (x : EventAt). x.instance) event_tree next ready

module _ {Row Begun Decision Verdict Kept Started Decided Told : Type 0} (see : Row → Kept) (started : Begun → Started)
    (decided : Decision → Decided) (told : Verdict → Told) (d : Graph) (m : Source Kept Started Decided Told) (depth : ℕ → ℕ)
    (writes : ℕ → Address → Kept → Bool) (rows : List (RowAt Row)) (running : List (LeafAt Begun)) (opens : List (OpenAt Decision Verdict))
    (store : List WriterAt) (waits lacks : List CountAt) (ready : List EventAt)
    (kept : IsKept d m depth writes (state_of see started decided told rows running opens) opens store waits lacks ready)
    (at : Instance) where
  n : ℕ
  n = at.action

  i : List ℕ
  i = at.at

  abbrev s : State Kept Started Decided Told
  s = state_of see started decided told rows running opens

  -- a state with other running leaves
  abbrev with_running : List (LeafAt Begun) → State Kept Started Decided Told
  with_running leaves = state_of see started decided told rows leaves opens

  -- the event of a leaf that runs
  leaf_next : (leaves : List (LeafAt Begun)) (begun : Started) (made : ℕ) (after : List Need) (kind : Kind)
      → rows_in see rows (address at.action at.at) ≡ None
      → running_in started leaves (address at.action at.at) ≡ Some (record { begun = begun; tries = made })
      → (next : EventKind) → next ≡ cond (nat_lt made (m.tries (address at.action at.at) begun)) Try End
      → own_event m (with_running leaves) after kind at.action at.at ≡ Some (event_tree (record { instance = at; kind = next }))
  leaf_next leaves begun made after kind no_row runs next is =
      ap (λ o. cond (has_ended o) None (of_busy m (with_running leaves) after kind at.action at.at
      (running_in started leaves (address at.action at.at)))) no_row
      ∙ ap (of_busy m (with_running leaves) after kind at.action at.at) runs
      ∙ ap (λ (e : Event). Some e) (sym (ap (λ (z : EventKind). event_tree (record { instance = at; kind = z })) is ∙ go (nat_lt made
      (m.tries (address at.action at.at) begun))))
    where
      go : (b : Bool) → event_tree (record { instance = at; kind = cond b Try End })
          ≡ cond b (machine.Try at.action at.at) (machine.End at.action at.at)
      go true = refl
      go false = refl

  -- ---- Start

  module _ (may : IsEnabled d m s (machine.Start at.action at.at)) (begun : Begun)
      (gives : started begun ≡ m.start (address_of at) (rows_in see rows)) where
    abbrev begins : List (LeafAt Begun)
    begins = put_key instance_cmp (λ (l : LeafAt Begun). l.instance) (record { instance = at; begun = begun; tries = 0 }) running

    abbrev leaf : machine.Running Started
    leaf = record { begun = started begun; tries = 0 }

    put_there : running_in started begins ≡ place (one at.action at.at leaf) (running_in started running)
    put_there =
        table_put (λ (l : LeafAt Begun). l.instance) (leaf_tree started) (record { instance = at; begun = begun; tries = 0 }) running

    pub start_goes : Goes d m s (machine.Start at.action at.at) (with_running begins)
    start_goes = (
      may.1.0,
      may.1.1,
      may.1.2,
      ap (λ (t : Table (machine.Running Started)). record { rows = rows_in see rows; running = t; opens = opens_in decided told opens })
          (put_there
          ∙ ap (λ b. place (one at.action at.at (record { begun = b; tries = 0 })) (running_in started running)) gives),
    )

    pub start_kept : (next : EventKind) → next ≡ cond (nat_lt 0 (m.tries (address_of at) (started begun))) Try End
        → IsKept d m depth writes (with_running begins) opens store waits lacks
        (put_key instance_cmp (λ (x : EventAt). x.instance) (record { instance = at; kind = next }) ready)
    start_kept next is =
        quiet_kept d m depth writes s opens store waits lacks ready kept (machine.Start at.action at.at) (with_running begins)
        start_goes refl
        (record { instance = at; kind = next }) refl may.1.0 Leaf
        (let th = may.1.1.is_there in record { graph = th.graph; is_open = th.is_open; is_in = th.is_in })
        (leaf_next begins (started begun) 0 may.1.0 Leaf may.1.1.no_row
        (ap (λ t. t (address at.action at.at)) put_there ∙ placed_own at.action at.at leaf (running_in started running)) next is)

  -- ---- Try

  -- what may be tried again runs
  pub none_runs : IsEnabled d m s (machine.Try at.action at.at)
      → None ≡ find_key instance_cmp (λ (l : LeafAt Begun). l.instance) at running → ⊥
  none_runs may none = none-some may.1.0 (ap (option_map (leaf_tree started)) none ∙ may.1.1)

  module _ (may : IsEnabled d m s (machine.Try at.action at.at))
      (order : IsInKeyOrder instance_cmp (λ (l : LeafAt Begun). l.instance) running) (found : LeafAt Begun)
      (there : Some found ≡ find_key instance_cmp (λ (l : LeafAt Begun). l.instance) at running) where
    runs : running_in started running (address at.action at.at) ≡ Some (leaf_tree started found)
    runs = ap (option_map (leaf_tree started)) (sym there)

    it : may.1.0 ≡ leaf_tree started found
    it = some_is (sym may.1.1 ∙ runs)

    pub fewer : found.tries < m.tries (address_of at) (started found.begun)
    fewer = subst (λ (w : machine.Running Started). w.tries < m.tries (address at.action at.at) w.begun) it may.1.2

    module _ (made : ℕ) (counted : made ≡ suc found.tries) where
      abbrev again : List (LeafAt Begun)
      again =
          put_key instance_cmp (λ (l : LeafAt Begun). l.instance) (record { instance = at; begun = found.begun; tries = made })
          (without_key instance_cmp (λ (l : LeafAt Begun). l.instance) at running)

      abbrev more : ℕ → machine.Running Started
      more k = record { begun = started found.begun; tries = k }

      put_again : running_in started again ≡ place (one at.action at.at (more made)) (running_in started running)
      put_again =
          table_put (λ (l : LeafAt Begun). l.instance) (leaf_tree started) (record { instance = at; begun = found.begun; tries = made })
          (without_key instance_cmp (λ (l : LeafAt Begun). l.instance) at running)
          ∙ ap (place (one at.action at.at (more made)))
          (table_take (λ (l : LeafAt Begun). l.instance) (leaf_tree started) at running order)
          ∙ placed_over at.action at.at (more made) (running_in started running)

      pub try_goes : Goes d m s (machine.Try at.action at.at) (with_running again)
      try_goes = (
        leaf_tree started found,
        runs,
        fewer,
        ap (λ (t : Table (machine.Running Started)). record { rows = rows_in see rows; running = t; opens = opens_in decided told opens })
            (put_again ∙ ap (λ k. place (one at.action at.at (more k)) (running_in started running)) counted),
      )

      pub try_kept : (next : EventKind) → next ≡ cond (nat_lt made (m.tries (address_of at) (started found.begun))) Try End
          → IsKept d m depth writes (with_running again) opens store waits lacks
          (put_key instance_cmp (λ (x : EventAt). x.instance) (record { instance = at; kind = next }) ready)
      try_kept next is =
          let k : Known d depth m s = known d depth m s kept.reached in
          let busy = inl (leaf_tree started found, runs) in
          let th = k.busy.there' (address at.action at.at) busy in
          quiet_kept d m depth writes s opens store waits lacks ready kept (machine.Try at.action at.at) (with_running again) try_goes refl
          (record { instance = at; kind = next }) refl th.0 th.1
          (record { graph = th.2.graph; is_open = th.2.is_open; is_in = th.2.is_in })
          (leaf_next again (started found.begun) made th.0 th.1 (k.busy.no_row (address at.action at.at) busy)
          (ap (λ t. t (address at.action at.at)) put_again
          ∙ placed_own at.action at.at (more made) (running_in started running)) next is)
