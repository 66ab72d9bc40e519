-- What an End makes of the tables and of the store, and that all is kept.
use Rattle.std.proofs.Common.{◌≡◌, ℕ, Bool, true, false, cond, List, Option, Some, None, option_map, refl, sym, ap, ◌∙◌, subst}
use Rattle.std.proofs.lemmas.Option.{none-some}
use Rattle.wf_lists.specs.KeyOrder.{IsInKeyOrder, find_key, put_key, without_key}
use Rattle.wf_layers.specs.Definition.{Graph, Leaf}
use Rattle.wf_layers.specs.Address.{Address, Table, address, is_own}
use Rattle.wf_layers.specs.Machine as machine
use Rattle.wf_layers.specs.Machine.{State, or_else, place, one, without, Step}
use Rattle.wf_layers.specs.Source.{Source}
use Rattle.wf_layers.specs.Variables.{write_at, written}
use Rattle.wf_layers.proofs.Basics.{when}
use Rattle.wf_layers.proofs.Tables.{own_self}
use Rattle.wf_kept.specs.Stored.{IsStored}
use Rattle.wf_kept.proofs.Stored.{store_goes_on}
use Rattle.wf_events.specs.Instances.{address_of, instance_cmp, rows_in}
use Rattle.wf_events.specs.Known.{IsInformed, opens_in, store_in, writer}
use Rattle.wf_events.specs.Instance.{Instance}
use Rattle.wf_events.specs.OpenAt.{OpenAt}
use Rattle.wf_events.specs.RowAt.{RowAt}
use Rattle.wf_events.specs.WriterAt.{WriterAt}
use Rattle.wf_events.specs.Plan.{PlanTree}
use Rattle.wf_events.specs.Tables.{count_in, events_in, leaf_tree, left_in, running_in, state_of}
use Rattle.wf_events.specs.CountAt.{CountAt}
use Rattle.wf_events.specs.EventAt.{EventAt}
use Rattle.wf_events.specs.LeafAt.{LeafAt}
use Rattle.wf_events.proofs.OpenLemmas.{opens_same}
use Rattle.wf_events.proofs.TablesTableLemmas.{table_put, table_take}
use Rattle.wf_events.specs.RowEdits.{IsSettled}
use Rattle.wf_events.proofs.PlacedLemmas.{end_idles}
use Rattle.wf_steps.specs.Kept.{Goes, IsEnabled, IsKept, IsPlanned}
use Rattle.wf_steps.proofs.InformedLemmas.{running_is_informed}
use Rattle.wf_steps.proofs.RowPlacedLemmas.{row_kept}

some_is : {A : Type 0} {u v : A} → Some u ≡ Some v → u ≡ v
some_is e = cc (e)

-- ---- the store, as a leaf ends with a row

module _ {Row Begun Decision Verdict : Type 0} (d : Graph) (depth : ℕ → ℕ) (m : Source Row Begun Decision Verdict)
    (writes : ℕ → Address → Row → Bool) (s s' : State Row Begun Decision Verdict) (n : ℕ) (i : List ℕ)
    (st : Step d m s (machine.End n i) s') (row : Row) (there : s'.rows (address n i) ≡ Some row) where
  pub end_stored : (v : ℕ) (before : Option Address) → IsStored d depth m (writer writes v) s before
      → IsStored d depth m (writer writes v) s' (cond (writes v (address n i) row) (Some (address n i)) before)
  end_stored v before stored =
      subst (IsStored d depth m (writer writes v) s') it (store_goes_on d depth m (writer writes v) s before stored (machine.End n i) s' st)
    where
      go : (b : Bool) → or_else (cond b (Some (address n i)) None) before ≡ cond b (Some (address n i)) before
      go true = refl
      go false = refl

      it : written d m (writer writes v) (machine.End n i) s' before ≡ cond (writes v (address n i) row) (Some (address n i)) before
      it = ap (λ o. or_else (write_at d m (writer writes v) (address n i) o) before) there ∙ go (writes v (address n i) row)

-- ---- the tables

module _ {Row Begun Decision Verdict Kept Started Decided Told : Type 0} (see : Row → Kept) (started : Begun → Started)
    (decided : Decision → Decided) (told : Verdict → Told) (d : Graph) (m : Source Kept Started Decided Told) (depth : ℕ → ℕ)
    (writes : ℕ → Address → Kept → Bool) (rows : List (RowAt Row)) (running : List (LeafAt Begun)) (opens : List (OpenAt Decision Verdict))
    (store : List WriterAt) (waits lacks : List CountAt) (ready : List EventAt)
    (kept : IsKept d m depth writes (state_of see started decided told rows running opens) opens store waits lacks ready)
    (at : Instance) (may : IsEnabled d m (state_of see started decided told rows running opens) (machine.End at.action at.at)) where
  abbrev s : State Kept Started Decided Told
  s = state_of see started decided told rows running opens

  -- what ends is running
  pub none_ends : None ≡ find_key instance_cmp (λ (l : LeafAt Begun). l.instance) at running → ⊥
  none_ends none = none-some may.1.0 (ap (option_map (leaf_tree started)) none ∙ may.1.1)

  module _ (found : LeafAt Begun) (there : Some found ≡ find_key instance_cmp (λ (l : LeafAt Begun). l.instance) at running) where
    runs : running_in started running (address at.action at.at) ≡ Some (leaf_tree started found)
    runs = ap (option_map (leaf_tree started)) (sym there)

    pub end_is_informed : IsInformed d depth m (rows_in see rows) (opens_in decided told opens) at.action at.at Leaf
    end_is_informed = running_is_informed d depth m s kept.reached at.action at.at (leaf_tree started found) runs

    it : may.1.0 ≡ leaf_tree started found
    it = some_is (sym may.1.1 ∙ runs)

    module _ (order : IsInKeyOrder instance_cmp (λ (l : LeafAt Begun). l.instance) running) (row : Row)
        (gives : see row ≡ m.finish (address_of at) (started found.begun) (rows_in see rows)) (opens' : List (OpenAt Decision Verdict))
        (same : opens_in (λ d. d) (λ v. v) opens' ≡ opens_in (λ d. d) (λ v. v) opens) where
      abbrev ended_rows : List (RowAt Row)
      ended_rows = put_key instance_cmp (λ (r : RowAt Row). r.instance) (record { instance = at; row = row }) rows

      abbrev ended_running : List (LeafAt Begun)
      ended_running = without_key instance_cmp (λ (l : LeafAt Begun). l.instance) at running

      abbrev s' : State Kept Started Decided Told
      s' = state_of see started decided told ended_rows ended_running opens'

      rows_then : rows_in see ended_rows ≡ place (one at.action at.at (see row)) (rows_in see rows)
      rows_then = table_put (λ (r : RowAt Row). r.instance) (λ (r : RowAt Row). see r.row) (record { instance = at; row = row }) rows

      end_row : rows_in see ended_rows (address at.action at.at) ≡ Some (see row)
      end_row =
          ap (λ (t : Table Kept). t (address at.action at.at)) rows_then
          ∙ ap (λ o. or_else o (rows_in see rows (address at.action at.at)))
          (when (is_own at.action at.at (address at.action at.at)) (Some (see row)) None (own_self at.action at.at))

      pub end_goes : Goes d m s (machine.End at.action at.at) s'
      end_goes = (
        leaf_tree started found,
        runs,
        subst (λ (w : machine.Running Started). w.tries ≡ m.tries (address at.action at.at) w.begun) it may.1.2,
        ap (λ (t : Table Kept). record {
          rows = t;
          running = running_in started ended_running;
          opens = opens_in decided told opens';
        }) (rows_then ∙ ap (λ r. place (one at.action at.at r) (rows_in see rows)) gives)
            ∙ ap (λ (t : Table (machine.Running Started)). record {
              rows = place (one at.action at.at (m.finish (address at.action at.at) (started found.begun) (rows_in see rows)))
                  (rows_in see rows);
              running = t;
              opens = opens_in decided told opens';
            }) (table_take (λ (l : LeafAt Begun). l.instance) (leaf_tree started) at running order)
            ∙ ap (λ (t : Table (machine.Opening Decided Told)). record {
              rows = place (one at.action at.at (m.finish (address at.action at.at) (started found.begun) (rows_in see rows)))
                  (rows_in see rows);
              running = without at.action at.at (running_in started running);
              opens = t;
            }) (opens_same decided told opens' opens same),
      )

      pub end_kept : (p : PlanTree) → IsPlanned d p → (store' : List WriterAt)
          → ((v : ℕ) → store_in store' v ≡ cond (writes v (address_of at) (see row)) (Some (address_of at)) (store_in store v))
          → (waits' lacks' : List CountAt) (ready' : List EventAt)
          → IsSettled m p at (rows_in see ended_rows) (opens_in decided told opens') (count_in waits) (count_in waits') (count_in lacks)
          (count_in lacks') (left_in opens) (left_in opens') (events_in ready) (events_in ready')
          → IsKept d m depth writes (state_of see started decided told ended_rows ended_running opens') opens' store' waits' lacks' ready'
      end_kept p planned store' wrote waits' lacks' ready' settled =
          row_kept d m depth writes s opens store waits lacks ready kept p planned (machine.End at.action at.at) s' end_goes refl
          (end_idles d depth m s kept.reached at.action at.at s' end_goes) (left_in opens) kept.left opens' store' waits' lacks' ready'
          settled.named settled.owned settled.finished settled.looked
          (λ v. subst (IsStored d depth m (writer writes v) s') (sym (wrote v))
          (end_stored d depth m writes s s' at.action at.at end_goes (see row) end_row v (store_in store v) (kept.stored v)))
