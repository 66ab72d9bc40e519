-- How the sums over the lists of a state move as an event is taken.
use Rattle.std.proofs.Common.{◌≡◌, ◌≤◌, ℕ, ◌+◌, List, [], ◌∷◌, false, refl, sym, subst, arith, nat_eq}
use Rattle.wf_lists.specs.KeyOrder.{IsInKeyOrder}
use Rattle.wf_layers.specs.Address.{Address, same_at}
use Rattle.wf_layers.specs.Definition.{Graph}
use Rattle.wf_layers.specs.Listed.{sum_of}
use Rattle.wf_layers.specs.Machine.{Event, Opening, Running, State, Step, place_of}
use Rattle.wf_layers.specs.Source.{Source}
use Rattle.wf_kept.specs.Reached.{IsReached}
use Rattle.wf_tables.specs.Instances.{address_of, instance_cmp, rows_in}
use Rattle.wf_tables.specs.Known.{open_tree, opens_in}
use Rattle.wf_tables.specs.OpenAt.{OpenAt}
use Rattle.wf_tables.specs.RowAt.{RowAt}
use Rattle.wf_tables.specs.Once.{AreDistinct}
use Rattle.wf_tables.specs.Plan.{PlanTree}
use Rattle.wf_tables.specs.PlanOf.{IsPlanOf}
use Rattle.wf_tables.specs.Tables.{leaf_tree, running_in, state_of}
use Rattle.wf_tables.specs.declared.entries.LeafAt.{LeafAt}
use Rattle.wf_meter.specs.Parts.{block_of, block_or_none, block_worth, worth}
use Rattle.wf_meter.proofs.SumLemmas.{block_below, sums_differ}
use Rattle.wf_meter.proofs.TouchLemmas.{first_not, known_kind, opens_stay, rows_else, running_stay, stands}

module _ {Row Begun Decision Verdict Kept Started Decided Told : Type 0} (see : Row → Kept) (started : Begun → Started)
    (decided : Decision → Decided) (told : Verdict → Told) (d : Graph) (depth : ℕ → ℕ) (m : Source Kept Started Decided Told)
    (p : PlanTree) (plan : IsPlanOf d p)
    (rows rows' : List (RowAt Row)) (running running' : List (LeafAt Begun)) (opens opens' : List (OpenAt Decision Verdict))
    (reached : IsReached d depth m (state_of see started decided told rows running opens)) (e : Event)
    (st : Step d m (state_of see started decided told rows running opens) e (state_of see started decided told rows' running' opens')) where
  abbrev s : State Kept Started Decided Told
  s = state_of see started decided told rows running opens

  abbrev s' : State Kept Started Decided Told
  s' = state_of see started decided told rows' running' opens'

  once : AreDistinct (block_of p (place_of e).name)
  once =
      let th = stands m d depth s reached p plan e s' st in
      let known = known_kind m d depth s reached p plan (place_of e).name (place_of e).at th.0 th.1 th.2 in
      let entry = plan.entry (place_of e).name th.1 known in
      subst (λ o. AreDistinct (block_or_none o)) (sym entry.1) entry.2.each_once

  pub rows_move : IsInKeyOrder instance_cmp (λ (r : RowAt Row). r.instance) rows
      → IsInKeyOrder instance_cmp (λ (r : RowAt Row). r.instance) rows' → (w : Address → Kept → ℕ)
      → sum_of (λ (r : RowAt Row). w (address_of r.instance) (see r.row)) rows'
      + block_worth w (rows_in see rows) (place_of e).at (block_of p (place_of e).name)
      ≡ sum_of (λ (r : RowAt Row). w (address_of r.instance) (see r.row)) rows
      + block_worth w (rows_in see rows') (place_of e).at (block_of p (place_of e).name)
  rows_move ox oy w =
      sums_differ (λ (r : RowAt Row). r.instance) (λ (r : RowAt Row). see r.row) w (place_of e).at (block_of p (place_of e).name) once
      rows rows' ox oy
      (rows_else m d depth s reached p plan e s' st)

  pub leaves_move : IsInKeyOrder instance_cmp (λ (l : LeafAt Begun). l.instance) running
      → IsInKeyOrder instance_cmp (λ (l : LeafAt Begun). l.instance) running' → (w : Address → Running Started → ℕ)
      → sum_of (λ (l : LeafAt Begun). w (address_of l.instance) (leaf_tree started l)) running'
      + worth w (place_of e) (running_in started running (place_of e))
      ≡ sum_of (λ (l : LeafAt Begun). w (address_of l.instance) (leaf_tree started l)) running
      + worth w (place_of e) (running_in started running' (place_of e))
  leaves_move ox oy w =
      let moved = sums_differ (λ (l : LeafAt Begun). l.instance) (leaf_tree started) w (place_of e).at ((place_of e).name ∷ []) (refl, tt)
      running running' ox oy
      (λ x u. running_stay m d depth s reached p plan e s' st x
      (first_not (nat_eq (place_of e).name x.name) false (same_at (place_of e).at x.at) u)) in
      omega (arith, moved)

  pub containers_move : IsInKeyOrder instance_cmp (λ (o : OpenAt Decision Verdict). o.instance) opens
      → IsInKeyOrder instance_cmp (λ (o : OpenAt Decision Verdict). o.instance) opens' → (w : Address → Opening Decided Told → ℕ)
      → sum_of (λ (o : OpenAt Decision Verdict). w (address_of o.instance) (open_tree decided told o)) opens'
      + worth w (place_of e) (opens_in decided told opens (place_of e))
      ≡ sum_of (λ (o : OpenAt Decision Verdict). w (address_of o.instance) (open_tree decided told o)) opens
      + worth w (place_of e) (opens_in decided told opens' (place_of e))
  containers_move ox oy w =
      let moved = sums_differ (λ (o : OpenAt Decision Verdict). o.instance) (open_tree decided told) w (place_of e).at
      ((place_of e).name ∷ []) (refl, tt)
      opens opens' ox oy
      (λ x u. opens_stay m d depth s reached p plan e s' st x
      (first_not (nat_eq (place_of e).name x.name) false (same_at (place_of e).at x.at) u)) in
      omega (arith, moved)

  -- and what stands there is part of them before
  pub rows_within : IsInKeyOrder instance_cmp (λ (r : RowAt Row). r.instance) rows → (w : Address → Kept → ℕ)
      → block_worth w (rows_in see rows) (place_of e).at (block_of p (place_of e).name)
      ≤ sum_of (λ (r : RowAt Row). w (address_of r.instance) (see r.row)) rows
  rows_within ox w =
      block_below (λ (r : RowAt Row). r.instance) (λ (r : RowAt Row). see r.row) w (place_of e).at (block_of p (place_of e).name) once rows
      ox

  pub leaves_within : IsInKeyOrder instance_cmp (λ (l : LeafAt Begun). l.instance) running → (w : Address → Running Started → ℕ)
      → worth w (place_of e) (running_in started running (place_of e))
      ≤ sum_of (λ (l : LeafAt Begun). w (address_of l.instance) (leaf_tree started l)) running
  leaves_within ox w =
      let part = block_below (λ (l : LeafAt Begun). l.instance) (leaf_tree started) w (place_of e).at ((place_of e).name ∷ []) (refl, tt)
      running ox in
      omega (arith, part)

  pub containers_within : IsInKeyOrder instance_cmp (λ (o : OpenAt Decision Verdict). o.instance) opens
      → (w : Address → Opening Decided Told → ℕ)
      → worth w (place_of e) (opens_in decided told opens (place_of e))
      ≤ sum_of (λ (o : OpenAt Decision Verdict). w (address_of o.instance) (open_tree decided told o)) opens
  containers_within ox w =
      let part = block_below (λ (o : OpenAt Decision Verdict). o.instance) (open_tree decided told) w (place_of e).at
      ((place_of e).name ∷ []) (refl, tt)
      opens ox in
      omega (arith, part)
