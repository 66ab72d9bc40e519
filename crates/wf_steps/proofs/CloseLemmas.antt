-- What a Close makes of the tables, and that all is kept.
use Rattle.std.proofs.Common.{◌≡◌, ℕ, zero, suc, ◌-◌, ◌<◌, ◌≤◌, Bool, true, false, ◌&&◌, cond, List, [], ◌∷◌, ◌++◌, Option, Some, None, option_map, nat_eq, nat_lt, ⊎_elim, refl, sym, ap, ◌∙◌, subst, arith, eqb-true, true≢false, length}
use Rattle.std.proofs.lemmas.Option.{none-some}
use Rattle.wf_lists.specs.KeyOrder.{IsInKeyOrder, find_key, put_key, without_key}
use Rattle.wf_lists.proofs.KeyOrderLemmas.{find-without}
use Rattle.wf_layers.specs.Address.{Address, Table, address, is_own, same_at}
use Rattle.wf_layers.specs.Changes.{is_named, next_of, owns}
use Rattle.wf_layers.specs.Definition.{Graph, Need, Pace, Kind, Leaf, Scope, Choice, Foreach, Until, holds, kind_of, needs_of}
use Rattle.wf_layers.specs.Machine as machine
use Rattle.wf_layers.specs.Machine.{IsContainer, IsThere, MayClose, Opening, State, closing, is_ended, one, or_else, place, unfinished, without}
use Rattle.wf_layers.specs.Meaning.{meaning, only}
use Rattle.wf_layers.specs.Source.{Source}
use Rattle.wf_layers.proofs.Basics.{not_true, two, unless, when}
use Rattle.wf_layers.proofs.Changes.{owns_holds}
use Rattle.wf_layers.proofs.Open.{open_sub, placed_in}
use Rattle.wf_layers.proofs.Tables.{own_is}
use Rattle.wf_kept.specs.Event.{AreLeft}
use Rattle.wf_kept.proofs.Informed.{kinds_are_known, reached_facts}
use Rattle.wf_kept.proofs.Known.{known}
use Rattle.wf_kept.proofs.Stored.{store_goes_on}
use Rattle.wf_step_laws.proofs.Idle as idle
use Rattle.wf_events.specs.Instances.{address_of, instance_cmp, instance_of, instance_total, rows_in}
use Rattle.wf_events.specs.Known.{IsInformed, open_tree, opens_in, store_in, writer}
use Rattle.wf_events.specs.Instance.{Instance}
use Rattle.wf_events.specs.OpenAt.{OpenAt}
use Rattle.wf_events.specs.RowAt.{RowAt}
use Rattle.wf_events.specs.WriterAt.{WriterAt}
use Rattle.wf_events.specs.Plan.{PlanTree, shape_of}
use Rattle.wf_events.specs.PlanSeen.{at_place}
use Rattle.wf_events.specs.Tables.{count_in, count_or_none, events_in, left_in, running_in, state_of}
use Rattle.wf_events.specs.CountAt.{CountAt}
use Rattle.wf_events.specs.EventAt.{EventAt}
use Rattle.wf_events.specs.LeafAt.{LeafAt}
use Rattle.wf_events.proofs.OpenLemmas.{opens_same}
use Rattle.wf_events.proofs.TablesTableLemmas.{own_place, table_put, table_take}
use Rattle.wf_events.specs.Closed.{iterations_by, iterations_of, last_by, last_of}
use Rattle.wf_events.specs.Round.{IsLast, outer_or_same, round_at, round_in}
use Rattle.wf_events.specs.RowEdits.{AreRowEdits, IsSettled}
use Rattle.wf_events.specs.declared.edits.RowEdits.{RowEdits}
use Rattle.wf_events.specs.declared.round.Round.{Round}
use Rattle.wf_steps.specs.Kept.{Goes, IsEnabled, IsKept, IsPlanned}
use Rattle.wf_steps.proofs.InformedLemmas.{open_is_informed}
use Rattle.wf_steps.proofs.RowPlacedLemmas.{row_kept}

the_same : {A : Type 0} {u v : A} → Some u ≡ Some v → u ≡ v
the_same e = cc (e)

flipped : (a b : ℕ) → nat_eq a b ≡ nat_eq b a
flipped a b = grind (arith)

-- where all iterations have ended none is unfinished
none_unfinished : {A : Type 0} (g : Graph) (i : List ℕ) (t : Table A) (c : ℕ) → ((j : ℕ) → j < c → is_ended g (i ++ j ∷ []) t ≡ true)
    → unfinished g i t c ≡ 0
none_unfinished g i t zero all = refl
none_unfinished g i t (suc c) all =
    when (is_ended g (i ++ c ∷ []) t) _ _ (all c (omega arith)) ∙ none_unfinished g i t c (λ j lt. all j (omega (arith, lt)))

-- a test, as it is seen
pub seen_test : {A B C : Type 0} (f : A → B) (g : B → C) (o : Option A) → option_map (λ v. g (f v)) o ≡ option_map g (option_map f o)
seen_test f g None = refl
seen_test f g (Some v) = refl

-- ---- a container that is taken out of the open ones

module _ {Decision Verdict : Type 0} (k : Instance) (xs : List (OpenAt Decision Verdict))
    (order : IsInKeyOrder instance_cmp (λ (o : OpenAt Decision Verdict). o.instance) xs) where
  abbrev rest : List (OpenAt Decision Verdict)
  rest = without_key instance_cmp (λ (o : OpenAt Decision Verdict). o.instance) k xs

  left_taken : (x : Address) → left_in rest x ≡ cond (is_own k.action k.at x) 0 (left_in xs x)
  left_taken x =
      ap count_or_none (find-without instance_total (λ (o : OpenAt Decision Verdict). o.instance) k (instance_of x) xs order)
      ∙ ap (λ b. count_or_none (cond b None (find_key instance_cmp (λ (o : OpenAt Decision Verdict). o.instance) (instance_of x) xs)))
      (own_place k x)
      ∙ go (is_own k.action k.at x)
    where
      go : (b : Bool) → count_or_none (cond b None (find_key instance_cmp (λ (o : OpenAt Decision Verdict). o.instance) (instance_of x) xs))
          ≡ cond b 0 (left_in xs x)
      go true = refl
      go false = refl

  next_taken : (x : Address) → is_own k.action k.at x ≡ false
      → next_of (opens_in (λ d. d) (λ v. v) rest x) ≡ next_of (opens_in (λ d. d) (λ v. v) xs x)
  next_taken x u =
      ap (λ (t : Table (Opening Decision Verdict)). next_of (t x))
      (table_take (λ (o : OpenAt Decision Verdict). o.instance) (open_tree (λ d. d) (λ v. v)) k xs order)
      ∙ ap next_of (unless (is_own k.action k.at x) None (opens_in (λ d. d) (λ v. v) xs x) u)

  -- what is made before says the same of the others
  module _ (p : PlanTree) (apart : (c : ℕ) → at_place p.holders k.action ≡ Some c → nat_eq k.action c ≡ false) where
    last_taken : (r : Option Round) → r ≡ round_at p k → (last : Instance)
        → IsLast (λ x. next_of (opens_in (λ d. d) (λ v. v) xs x)) r last → IsLast (λ x. next_of (opens_in (λ d. d) (λ v. v) rest x)) r last
    last_taken r is last il =
        subst (λ z. IsLast (λ x. next_of (opens_in (λ d. d) (λ v. v) rest x)) z last) (sym is)
        (go (at_place p.holders k.action) refl (subst (λ z. IsLast (λ x. next_of (opens_in (λ d. d) (λ v. v) xs x)) z last) is il))
      where
        go : (o : Option ℕ) → at_place p.holders k.action ≡ o
            → IsLast (λ x. next_of (opens_in (λ d. d) (λ v. v) xs x)) (option_map (round_in p k.at) o) last
            → IsLast (λ x. next_of (opens_in (λ d. d) (λ v. v) rest x)) (option_map (round_in p k.at) o) last
        go None e z = z
        go (Some c) e z =
            let out = outer_or_same (at_place p.entries c) k.at in
            z ∙ ap (λ j. address c (out ++ (j - 1) ∷ []))
            (sym (next_taken (address c out) (ap (λ b. b && same_at k.at out) (apart c e))))

    pub edits_taken : (edits : RowEdits) → AreRowEdits p (λ x. next_of (opens_in (λ d. d) (λ v. v) xs x)) k edits
        → AreRowEdits p (λ x. next_of (opens_in (λ d. d) (λ v. v) rest x)) k edits
    edits_taken edits are = record {
      itself = are.itself;
      named = are.named;
      graph = are.graph;
      iteration = last_taken edits.round are.graph edits.last are.iteration;
    }

-- ---- a container that closes

module _ {Row Begun Decision Verdict Kept Started Decided Told : Type 0} (see : Row → Kept) (started : Begun → Started)
    (decided : Decision → Decided) (told : Verdict → Told) (d : Graph) (m : Source Kept Started Decided Told) (depth : ℕ → ℕ)
    (writes : ℕ → Address → Kept → Bool) (rows : List (RowAt Row)) (running : List (LeafAt Begun)) (opens : List (OpenAt Decision Verdict))
    (store : List WriterAt) (waits lacks : List CountAt) (ready : List EventAt)
    (kept : IsKept d m depth writes (state_of see started decided told rows running opens) opens store waits lacks ready)
    (at : Instance) (may : IsEnabled d m (state_of see started decided told rows running opens) (machine.Close at.action at.at)) where
  abbrev n : ℕ
  n = at.action

  abbrev i : List ℕ
  i = at.at

  abbrev s : State Kept Started Decided Told
  s = state_of see started decided told rows running opens

  abbrev after : List Need
  after = may.1.0

  abbrev kind : Kind
  kind = may.1.1

  abbrev w : Opening Decided Told
  w = may.1.2

  abbrev th : IsThere d m s n i after kind
  th = may.1.3

  abbrev stands : s.opens (address n i) ≡ Some w
  stands = may.1.4

  is_kind : kind_of d n ≡ Some kind
  is_kind = (kinds_are_known d depth m s kept.reached n i after kind th).0

  -- what closes is open
  pub none_closes : None ≡ find_key instance_cmp (λ (o : OpenAt Decision Verdict). o.instance) at opens → ⊥
  none_closes none = none-some w (ap (option_map (open_tree decided told)) none ∙ stands)

  pub close_is_informed : (k : Kind) → kind_of d at.action ≡ Some k
      → IsContainer k × IsInformed d depth m (rows_in see rows) (opens_in decided told opens) at.action at.at k
  close_is_informed k kn = open_is_informed d depth m s kept.reached n i w stands k kn

  -- it isn't the container round it
  not_inside : holds kind n ≡ false
  not_inside =
      let k = known d depth m s kept.reached in
      let f = meaning m depth d in
      (placed_in m d k.so f k.sol (length i) th.graph n after kind (open_sub m d k.so f k.sol s.opens th.graph i th.is_open)
      th.is_in).apart_own

  pub apart : (p : PlanTree) → IsPlanned d p → (c : ℕ) → at_place p.holders at.action ≡ Some c → nat_eq at.action c ≡ false
  apart p planned c e =
      not_true (nat_eq n c) (λ t.
      let held : owns (kind_of d n) n ≡ true = ap (λ z. owns (kind_of d z) n) (eqb-true n c t) ∙ planned.plan.holder n c e in
      true≢false (sym (owns_holds kind n (ap (λ z. owns z n) (sym is_kind) ∙ held)) ∙ not_inside))

  -- none of its iterations is unfinished
  pub left_rest : (order : IsInKeyOrder instance_cmp (λ (o : OpenAt Decision Verdict). o.instance) opens)
      → AreLeft d m s (left_in (without_key instance_cmp (λ (o : OpenAt Decision Verdict). o.instance) at opens))
  left_rest order q j before pace h u thq eu =
      left_taken at opens order (address q j)
      ∙ ⊎_elim
      (λ t. when (is_own n i (address q j)) 0 (left_in opens (address q j)) t ∙ own (own_is n i (address q j) t))
      (λ v. unless (is_own n i (address q j)) 0 (left_in opens (address q j)) v ∙ kept.left q j before pace h u thq eu)
      (two (is_own n i (address q j)))
    where
      closed : (pace : Pace) → MayClose m (Foreach pace h) i w s.rows → 0 ≡ unfinished h i s.rows w.next
      closed pace mc = sym (none_unfinished h i s.rows w.next mc.1)

      own : address n i ≡ address q j → 0 ≡ unfinished h j s.rows u.next
      own same =
          let same_name : n ≡ q = ap (λ (x : Address). x.name) same in
          let same_place : i ≡ j = ap (λ (x : Address). x.at) same in
          let kq = (kinds_are_known d depth m s kept.reached q j before (Foreach pace h) thq).0 in
          let is : kind ≡ Foreach pace h = the_same (sym is_kind ∙ ap (kind_of d) same_name ∙ kq) in
          let it : w ≡ u = the_same (sym stands ∙ ap s.opens same ∙ eu) in
          closed pace (subst (λ (k : Kind). MayClose m k i w s.rows) is may.1.5)
          ∙ ap (λ l. unfinished h l s.rows w.next) same_place ∙ ap (λ (z : Opening Decided Told). unfinished h j s.rows z.next) it

  module _ (found : OpenAt Decision Verdict)
      (there : Some found ≡ find_key instance_cmp (λ (o : OpenAt Decision Verdict). o.instance) at opens) where
    opening : w ≡ open_tree decided told found
    opening = the_same (sym stands ∙ ap (option_map (open_tree decided told)) (sym there))

    found_open : s.opens (address n i) ≡ Some (open_tree decided told found)
    found_open = ap (option_map (open_tree decided told)) (sym there)

    at_most : (most next : ℕ) → next ≤ most → cond (nat_lt next most) next most ≡ next
    at_most most next le = ⊎_elim
        (λ t. when (nat_lt next most) next most t)
        (λ u. unless (nat_lt next most) next most u ∙ least most next le u)
        (two (nat_lt next most))
      where
        least : (most next : ℕ) → next ≤ most → nat_lt next most ≡ false → most ≡ next
        least most next le u = grind (arith)

    -- its row by the shape of its kind
    closes : (k : Kind) → kind_of d at.action ≡ Some k
        → m.close (address_of at) (decided found.decision) (iterations_of (shape_of k) found.next)
        (option_map told (last_of (shape_of k) found.test)) (rows_in see rows)
        ≡ closing m k (address at.action at.at) (open_tree decided told found) (rows_in see rows)
    closes Leaf kn = refl
    closes (Scope g) kn = refl
    closes (Choice bs) kn = refl
    closes (Foreach pace g) kn = refl
    closes (Until most g) kn =
        let fact = (reached_facts d depth m s kept.reached).opens n i (open_tree decided told found) (Until most g) found_open kn in
        ap (λ c. m.close (address_of at) (decided found.decision) c (option_map told found.test) (rows_in see rows))
        (at_most most found.next fact.0)

    module _ (order : IsInKeyOrder instance_cmp (λ (o : OpenAt Decision Verdict). o.instance) opens) (p : PlanTree)
        (planned : IsPlanned d p) (row : Row)
        (gives : see row ≡ m.close (address_of at) (decided found.decision) (iterations_by (at_place p.entries at.action) found.next)
        (option_map told (last_by (at_place p.entries at.action) found.test)) (rows_in see rows))
        (opens' : List (OpenAt Decision Verdict))
        (same : opens_in (λ d. d) (λ v. v) opens'
        ≡ opens_in (λ d. d) (λ v. v) (without_key instance_cmp (λ (o : OpenAt Decision Verdict). o.instance) at opens)) where
      abbrev closed_rows : List (RowAt Row)
      closed_rows = put_key instance_cmp (λ (r : RowAt Row). r.instance) (record { instance = at; row = row }) rows

      abbrev left_open : List (OpenAt Decision Verdict)
      left_open = without_key instance_cmp (λ (o : OpenAt Decision Verdict). o.instance) at opens

      abbrev s' : State Kept Started Decided Told
      s' = state_of see started decided told closed_rows running opens'

      row_is : see row ≡ closing m kind (address at.action at.at) w (rows_in see rows)
      row_is =
          let e = planned.plan.entry n kind is_kind in
          gives
          ∙ ap (λ z. m.close (address_of at) (decided found.decision) (iterations_by z found.next)
          (option_map told (last_by z found.test)) (rows_in see rows)) e.1
          ∙ ap (λ z. m.close (address_of at) (decided found.decision) (iterations_of z found.next)
          (option_map told (last_of z found.test)) (rows_in see rows)) e.2.shape
          ∙ closes kind is_kind
          ∙ ap (λ z. closing m kind (address at.action at.at) z (rows_in see rows)) (sym opening)

      rows_then : rows_in see closed_rows ≡ place (one at.action at.at (closing m kind (address at.action at.at) w (rows_in see rows)))
          (rows_in see rows)
      rows_then =
          table_put (λ (r : RowAt Row). r.instance) (λ (r : RowAt Row). see r.row) (record { instance = at; row = row }) rows
          ∙ ap (λ r. place (one at.action at.at r) (rows_in see rows)) row_is

      opens_then : opens_in decided told opens' ≡ without at.action at.at (opens_in decided told opens)
      opens_then =
          opens_same decided told opens' left_open same
          ∙ table_take (λ (o : OpenAt Decision Verdict). o.instance) (open_tree decided told) at opens order

      pub close_goes : Goes d m s (machine.Close at.action at.at) s'
      close_goes = (
        after,
        kind,
        w,
        th,
        stands,
        may.1.5,
        ap (λ (t : Table Kept). record { rows = t; running = running_in started running; opens = opens_in decided told opens' }) rows_then
            ∙ ap (λ (t : Table (Opening Decided Told)). record {
              rows = place (one at.action at.at (closing m kind (address at.action at.at) w (rows_in see rows))) (rows_in see rows);
              running = running_in started running;
              opens = t;
            }) opens_then,
      )

      -- who waits for it is idle
      close_idles : (q : ℕ) → is_named (needs_of d q) n ≡ true
          → (s'.rows (address q i) ≡ None) × (s'.running (address q i) ≡ None) × (s'.opens (address q i) ≡ None)
      close_idles q nm =
          let e = machine.Close at.action at.at in
          let off : is_own n i (address q i) ≡ false =
          ap (λ b. b && same_at i i) (flipped n q ∙ idle.apart d depth m s kept.reached e s' close_goes refl q nm) in (
            ap (λ (t : Table Kept). t (address q i)) rows_then
                ∙ ap (λ b. or_else (only b (Some (closing m kind (address n i) w s.rows))) (s.rows (address q i))) off
                ∙ idle.no_row d depth m s kept.reached e s' close_goes refl q nm,
            idle.not_running d depth m s kept.reached e s' close_goes refl q nm,
            ap (λ (t : Table (Opening Decided Told)). t (address q i)) opens_then
                ∙ unless (is_own n i (address q i)) None (s.opens (address q i)) off
                ∙ idle.not_open d depth m s kept.reached e s' close_goes refl q nm,
          )

      pub close_kept : (waits' lacks' : List CountAt) (ready' : List EventAt)
          → IsSettled m p at (rows_in see closed_rows) (opens_in decided told opens') (count_in waits) (count_in waits') (count_in lacks)
          (count_in lacks') (left_in left_open) (left_in opens') (events_in ready) (events_in ready')
          → IsKept d m depth writes (state_of see started decided told closed_rows running opens') opens' store waits' lacks' ready'
      close_kept waits' lacks' ready' settled =
          row_kept d m depth writes s opens store waits lacks ready kept p planned (machine.Close at.action at.at) s' close_goes refl
          close_idles (left_in left_open) (left_rest order) opens' store waits' lacks' ready' settled.named settled.owned settled.finished
          settled.looked
          (λ v. store_goes_on d depth m (writer writes v) s (store_in store v) (kept.stored v) (machine.Close at.action at.at) s'
          close_goes)
