-- The store of a variable holds the value of the last writer that a decided action sees.
use Rattle.std.proofs.Common.{◌≡◌, ℕ, Bool, true, false, ◌&&◌, ◌||◌, cond, List, [], ◌∷◌, Option, Some, None, ◌⊎◌, inl, inr, ⊎_elim, refl, sym, ap, ◌∙◌, subst, nat_eq, true≢false}
use Rattle.std.proofs.lemmas.Option.{none-some}
use Rattle.wf_layers.specs.Definition.{Need, Kind, Leaf, Scope, Choice, Foreach, Until, Graph, has_any, shows, kind_of}
use Rattle.wf_layers.specs.Address.{Address, address, Table, same_at, starts, is_own, is_in, SeenIn}
use Rattle.wf_layers.specs.Source.{Source, Sound}
use Rattle.wf_layers.specs.Rule.{Obeys}
use Rattle.wf_layers.specs.Meaning.{skip, meaning}
use Rattle.wf_layers.proofs.Basics.{and_in, not_true, when}
use Rattle.wf_layers.specs.Machine.{Running, Opening, State, IsThere, In, fresh, or_else, place, one, without, opened, Event, Start, Try, End, Skip, Open, Begin, Test, Close, passed_over, MayClose, closing, Step, Run}
use Rattle.wf_layers.proofs.Tables.{own_self, one_is, place_split}
use Rattle.wf_layers.specs.Variables.{IsIdle, write_at, written, Stores, OneOrder, IsLastWritten, IsLastSeen, HasOrder, SeenByTest, StoreHolds, StoreHoldsAtTests, StoreHoldsAtEnds}
use Rattle.wf_layers.specs.Laws.{IsInstance, StoreHoldsTheLast}
use Rattle.wf_layers.proofs.Open.{kind_there}
use Rattle.wf_layers.proofs.Keeps.{Keeps, IsClosed, SpecialOut, decided_own}
use Rattle.wf_layers.proofs.Events.{step_keeps}
use Rattle.wf_layers.proofs.Progress.{sol, closed_is, nothing_special, kept_state}
use Rattle.wf_layers.proofs.Busy.{Busy, step_busy}
use Rattle.wf_layers.proofs.Facts.{busy_state, rooted_state}
use Rattle.wf_layers.proofs.Rooted.{Rooted, none_in_leaf}
use Rattle.wf_layers.proofs.Tests.{test_sees}
use Rattle.wf_layers.proofs.Others.{others_among, some_others, others_skipped}
use Rattle.wf_layers.proofs.Variables.{Lull, point_sees, sees_finished, no_lull}

module _ {Row Begun Decision Verdict Value : Type 0} (m : Source Row Begun Decision Verdict) (d : Graph) (so : Sound m (SeenIn d) d 0)
    (f : Table Row) (sol : Obeys m d f) (closed : IsClosed m d so f sol) (out : SpecialOut m d so f sol) (lull : Lull m d so f sol)
    (writes : Address → Row → Option Value) (one_order : OneOrder d m writes f) where
  abbrev Kept : State Row Begun Decision Verdict → Type 0
  Kept s = Keeps m d so f sol s

  abbrev Stand : State Row Begun Decision Verdict → Type 0
  Stand s = Busy m d so f sol s

  -- the store holds the value of the last finished writer
  abbrev Last : State Row Begun Decision Verdict → Option Value → Type 0
  Last s v = IsLastWritten d m writes s.rows v

  -- where the new rows write nothing
  others_last : (s s' : State Row Begun Decision Verdict) (v : Option Value) → Kept s → Kept s'
      → ((x : Address) (r : Row) → s'.rows x ≡ Some r → (s.rows x ≡ Some r) ⊎ (writes x r ≡ None))
      → ((x : Address) (r : Row) → s.rows x ≡ Some r → (q : Row) × (s'.rows x ≡ Some q)) → Last s v → Last s' v
  others_last s s' v k k' new grows (inl h) = inl (h.0, λ y r e. ⊎_elim (λ z. h.1 y r z) (λ z. z) (new y r e))
  others_last s s' v k k' new grows (inr h) =
      let g = grows h.0 h.1 h.2 in
      let same : Some h.1 ≡ Some g.0 = sym (k.placed.by h.0 h.1 h.2) ∙ k'.placed.by h.0 g.0 g.1 in
      let is' : h.1 ≡ g.0 = cc in
      inr (h.0, h.1, g.1 ∙ ap Some (sym is'), h.3, h.4, λ z q e w. ⊎_elim (λ y. h.5 z q y w) (λ y. absurd (w y)) (new z q e))

  placed_new : (new t : Table Row) → ((x : Address) (r : Row) → new x ≡ Some r → writes x r ≡ None) → (x : Address) (r : Row)
      → place new t x ≡ Some r → (t x ≡ Some r) ⊎ (writes x r ≡ None)
  placed_new new t none x r e = ⊎_elim (λ h. inr (none x r h)) (λ h. inl h) (place_split new t x r e)

  placed_grows : (new t : Table Row) (x : Address) (r : Row) → t x ≡ Some r → (q : Row) × (place new t x ≡ Some q)
  placed_grows new t x r e = go (new x) refl
    where
      go : (o : Option Row) → new x ≡ o → (q : Row) × (place new t x ≡ Some q)
      go None h = (r, ap (λ o. or_else o (t x)) h ∙ e)
      go (Some q) h = (q, ap (λ o. or_else o (t x)) h)

  idle_none : (y : Address) (r : Row) → r ≡ m.skipped → writes y r ≡ None
  idle_none y r e = one_order.idle y r (inl e)

  -- a running leaf isn't open
  not_open : (s : State Row Begun Decision Verdict) → Kept s → (n : ℕ) (i : List ℕ) (w : Running Begun) → s.running (address n i) ≡ Some w
      → s.opens (address n i) ≡ None
  not_open s k n i w e = go (s.opens (address n i)) refl
    where
      go : (o : Option (Opening Decision Verdict)) → s.opens (address n i) ≡ o → s.opens (address n i) ≡ None
      go None h = h
      go (Some v) h = absurd (k.facts n i v Leaf h (k.held (address n i) w e).is_leaf).1

  -- a leaf that ends
  end_last : (s : State Row Begun Decision Verdict) → Kept s → Stand s → (n : ℕ) (i : List ℕ) (w : Running Begun)
      → s.running (address n i) ≡ Some w → (v : Option Value) → Last s v → (o : Option Value)
      → writes (address n i) (m.finish (address n i) w.begun s.rows) ≡ o
      → Kept (record {
        rows = place (one n i (m.finish (address n i) w.begun s.rows)) s.rows;
        running = without n i s.running;
        opens =
            s.opens;
      })
      → Last (record {
        rows = place (one n i (m.finish (address n i) w.begun s.rows)) s.rows;
        running = without n i s.running;
        opens =
            s.opens;
      }) (or_else o v)
  end_last s k b n i w e v l None h k' =
      others_last s (record {
        rows = place (one n i (m.finish (address n i) w.begun s.rows)) s.rows;
        running =
            without n i s.running;
        opens = s.opens;
      }) v k k'
      (placed_new (one n i (m.finish (address n i) w.begun s.rows)) s.rows
      (λ x r q. let z = one_is n i (m.finish (address n i) w.begun s.rows) x r q in
      subst (λ (y : Address). writes y r ≡ None) z.0 (subst (λ y. writes (address n i) y ≡ None) z.1 h)))
      (placed_grows (one n i (m.finish (address n i) w.begun s.rows)) s.rows) l
  end_last s k b n i w e v l (Some u) h k' = new_last l
    where
      r0 : Row
      r0 = m.finish (address n i) w.begun s.rows

      row0 : place (one n i r0) s.rows (address n i) ≡ Some r0
      row0 = ap (λ o. or_else o (s.rows (address n i))) (when (is_own n i (address n i)) (Some r0) None (own_self n i))

      is_writer : writes (address n i) r0 ≡ None → ⊥
      is_writer q = none-some u (sym q ∙ h)

      sees : (z : Address) (q : Row) → place (one n i r0) s.rows z ≡ Some q → (writes z q ≡ None → ⊥)
          → (z ≡ address n i) ⊎ SeenIn d (address n i) z
      sees z q p wz =
          ⊎_elim
          (λ c. inl (sym (one_is n i r0 z q c).0))
          (λ c. ⊎_elim
          (λ same. inl (sym same))
          (λ ord. let th = b.there' (address n i) (inl (w, e)) in
          inr (point_sees m d so f sol lull out s k th.2.graph i n th.0 th.1 th.2.is_open th.2.is_in
          (not_true (m.pinned n)
          (λ t. k.special th.2.graph i n th.0 th.1 th.2.is_open th.2.is_in (ap (λ z. z || m.reclosed n) t)
          (b.no_row (address n i) (inl (w, e))) (not_open s k n i w e))) (b.no_row (address n i) (inl (w, e))) z q c
          (λ idle. wz (one_order.idle z q idle)) ord))
          (one_order.ordered (address n i) z r0 q (k'.placed.by (address n i) r0 row0) (k.placed.by z q c) is_writer wz))
          (place_split (one n i r0) s.rows z q p)

      new_last : Last s v → Last (record { rows = place (one n i r0) s.rows; running = without n i s.running; opens = s.opens }) (Some u)
      new_last l = inr (address n i, r0, row0, h, (λ q. none-some u (sym q)), sees)

  step_last : (s : State Row Begun Decision Verdict) (e : Event) (s' : State Row Begun Decision Verdict) (v : Option Value) → Kept s
      → Kept s' → Stand s → Step d m s e s' → Last s v → Last s' (written d m writes e s' v)
  step_last s (Start n i) s' v k k' b st l =
      others_last s s' v k k' (λ x r q. inl (sym (ap (λ z. z.rows x) st.3) ∙ q)) (λ x r q. (r, ap (λ z. z.rows x) st.3 ∙ q)) l
  step_last s (Try n i) s' v k k' b st l =
      others_last s s' v k k' (λ x r q. inl (sym (ap (λ z. z.rows x) st.3) ∙ q)) (λ x r q. (r, ap (λ z. z.rows x) st.3 ∙ q)) l
  step_last s (Begin n i) s' v k k' b st l =
      others_last s s' v k k' (λ x r q. inl (sym (ap (λ z. z.rows x) st.6) ∙ q)) (λ x r q. (r, ap (λ z. z.rows x) st.6 ∙ q)) l
  step_last s (Test n i) s' v k k' b st l =
      others_last s s' v k k' (λ x r q. inl (sym (ap (λ z. z.rows x) st.7) ∙ q)) (λ x r q. (r, ap (λ z. z.rows x) st.7 ∙ q)) l
  step_last s (End n i) s' v k k' b (w, e, all, to) l =
      subst (λ z. Last z (or_else (write_at d m writes (address n i) (z.rows (address n i))) v)) (sym to)
      (subst (λ o. Last done' (or_else o v)) (ap (λ o. write_at d m writes (address n i) o) (sym row0))
      (end_last s k b n i w e v l (writes (address n i) r0) refl (subst Kept to k')))
    where
      r0 : Row
      r0 = m.finish (address n i) w.begun s.rows

      done' : State Row Begun Decision Verdict
      done' = record { rows = place (one n i r0) s.rows; running = without n i s.running; opens = s.opens }

      row0 : place (one n i r0) s.rows (address n i) ≡ Some r0
      row0 = ap (λ o. or_else o (s.rows (address n i))) (when (is_own n i (address n i)) (Some r0) None (own_self n i))
  step_last s (Skip n i) s' v k k' b (after, kind, de, fails, to) l =
      subst (λ z. Last z v) (sym to)
      (others_last s (record { rows = place (skip m n kind i) s.rows; running = s.running; opens = s.opens }) v k (subst Kept to k')
      (placed_new (skip m n kind i) s.rows (λ x r q. idle_none x r (skip_value x r q))) (placed_grows (skip m n kind i) s.rows) l)
    where
      skip_value : (x : Address) (r : Row) → skip m n kind i x ≡ Some r → r ≡ m.skipped
      skip_value x r q = cond_value ((nat_eq n x.name || shows kind x.name) && same_at i x.at) q
        where
          cond_value : (p : Bool) → cond p (Some m.skipped) None ≡ Some r → r ≡ m.skipped
          cond_value true q = let z : m.skipped ≡ r = cc in sym z
          cond_value false q = absurd (none-some r q)
  step_last s (Open n i) s' v k k' b (after, kind, c, de, pass, to) l =
      subst (λ z. Last z v) (sym to)
      (others_last s (record { rows = place new s.rows; running = s.running; opens = opened n i (Some w) s.opens }) v k
      (subst Kept to k')
      (placed_new new s.rows (λ x r q. idle_none x r (over_value kind de.is_there.is_in x r q))) (placed_grows new s.rows) l)
    where
      w : Opening Decision Verdict
      w = record { decision = m.decide (address n i) s.rows; next = 0; test = None }

      number : ℕ
      number = m.taken (m.decide (address n i) s.rows)

      new : Table Row
      new = passed_over m kind number i

      over_value : (kind : Kind) → In de.is_there.graph n after kind → (x : Address) (r : Row) → passed_over m kind number i x ≡ Some r
          → r ≡ m.skipped
      over_value Leaf st x r q = absurd (none-some r q)
      over_value (Scope g) st x r q = absurd (none-some r q)
      over_value (Choice bs) st x r q =
          let am = others_among bs number i x (some_others m bs number i x r q) in
          others_skipped m bs number i x r
          (not_true (m.pinned x.name) (λ t. k.special de.is_there.graph i n after (Choice bs) de.is_there.is_open st
          (out s.opens de.is_there.graph i n after (Choice bs) de.is_there.is_open st x.name
          (and_in (has_any bs x.name) (starts i x.at) am).0 (ap (λ z. z || m.reclosed x.name) t)) de.no_row de.not_open)) q
      over_value (Foreach pace g) st x r q = absurd (none-some r q)
      over_value (Until most g) st x r q = absurd (none-some r q)
  step_last s (Close n i) s' v k k' b (after, kind, w, th, e, may, to) l =
      subst (λ z. Last z v) (sym to)
      (others_last s (record { rows = place new s.rows; running = s.running; opens = opened n i None s.opens }) v k (subst Kept to k')
      (placed_new new s.rows (λ x r q. ⊎_elim (λ z. z) (λ wr. absurd (not_leaf x r q wr)) (decide_none (writes x r))))
      (placed_grows new s.rows) l)
    where
      new : Table Row
      new = one n i (closing m kind (address n i) w s.rows)

      decide_none : (o : Option Value) → (o ≡ None) ⊎ (o ≡ None → ⊥)
      decide_none None = inl refl
      decide_none (Some u) = inr (λ q. none-some u (sym q))

      closes_leaf : (kind : Kind) → kind ≡ Leaf → MayClose m kind i w s.rows → ⊥
      closes_leaf Leaf q may = may
      closes_leaf (Scope g) q may = not_scope q
        where
          is_leaf' : Kind → Bool
          is_leaf' Leaf = true
          is_leaf' (Scope g) = false
          is_leaf' (Choice bs) = false
          is_leaf' (Foreach pace g) = false
          is_leaf' (Until most g) = false

          not_scope : Scope g ≡ Leaf → ⊥
          not_scope q = true≢false (sym (ap is_leaf' q))
      closes_leaf (Choice bs) q may = absurd (subst (λ z. MayClose m z i w s.rows) q may)
      closes_leaf (Foreach pace g) q may = absurd (subst (λ z. MayClose m z i w s.rows) q may)
      closes_leaf (Until most g) q may = absurd (subst (λ z. MayClose m z i w s.rows) q may)

      not_leaf : (x : Address) (r : Row) → new x ≡ Some r → (writes x r ≡ None → ⊥) → ⊥
      not_leaf x r q wr =
          let own = (one_is n i (closing m kind (address n i) w s.rows) x r q).0 in
          let a : Some kind ≡ Some Leaf = sym (kind_there m d so f sol s.opens th.graph i n after kind th.is_open th.is_in).0
          ∙ ap (λ (z : Address). kind_of d z.name) own ∙ one_order.leaves x r wr in
          let b' : kind ≡ Leaf = cc in closes_leaf kind b' may

  pub run_last : (s : State Row Begun Decision Verdict) (es : List Event) (s' : State Row Begun Decision Verdict) (v v' : Option Value)
      → Kept s → Stand s → Stores d m writes s es s' v v' → Last s v → Last s' v'
  run_last s [] s' v v' k b r l = subst (λ z. Last z v') (sym r.0) (subst (λ z. Last s z) (sym r.1) l)
  run_last s (e ∷ es) s' v v' k b (mid, st, rest) l =
      let k' = step_keeps m d so f sol closed out s e mid k st in
      run_last mid es s' (written d m writes e mid v) v' k' (step_busy m d so f sol out s e mid k b st) rest
      (step_last s e mid v k k' b st l)

  -- at a point that sees all finished writers, and whose sights are there
  last_seen : (s : State Row Begun Decision Verdict) (v : Option Value) (Sees : Address → Type 0) → Kept s
      → ((y : Address) (r : Row) → s.rows y ≡ Some r → f y ≡ Some r → (writes y r ≡ None → ⊥) → Sees y)
      → ((y : Address) → Sees y → s.rows y ≡ f y) → Last s v → IsLastSeen d m writes f Sees v
  last_seen s v Sees k all seen l = go l
    where
      go : IsLastWritten d m writes s.rows v → IsLastSeen d m writes f Sees v
      go (inl h) = inl (h.0, λ y see. none_at y (f y) (seen y see))
        where
          none_at : (y : Address) (o : Option Row) → s.rows y ≡ o → write_at d m writes y o ≡ None
          none_at y None e = refl
          none_at y (Some r) e = h.1 y r e
      go (inr h) =
          let is_writer : writes h.0 h.1 ≡ None → ⊥ = λ q. h.4 (sym h.3 ∙ q) in
          let fy = k.placed.by h.0 h.1 h.2 in
          inr (
            h.0,
            all h.0 h.1 h.2 fy is_writer,
            ap (λ o. write_at d m writes h.0 o) fy
                ∙ h.3,
            h.4,
            λ z see wz. after_all z (f z) (seen z see) wz,
          )
        where
          after_all : (z : Address) (o : Option Row) → s.rows z ≡ o → (write_at d m writes z o ≡ None → ⊥) → (z ≡ h.0) ⊎ SeenIn d h.0 z
          after_all z None e wz = absurd (wz refl)
          after_all z (Some q) e wz = h.5 z q e wz

  not_idle : (y : Address) (r : Row) → (writes y r ≡ None → ⊥) → IsIdle m r → ⊥
  not_idle y r wr idle = wr (one_order.idle y r idle)

  -- at an action that is decided
  pub decided_last : (s : State Row Begun Decision Verdict) (v : Option Value) → Kept s → Stand s → Rooted m d so f sol s → Last s v
      → StoreHolds d m writes f s v
  decided_last s v k b rt l n i after kind de ord =
      last_seen s v (SeenIn d (address n i)) k
      (λ y r e fy wr. sees_finished m d so f sol lull out s k b rt n i after kind de y r e (not_idle y r wr) (ord y r fy wr))
      (λ y see. decided_own m d so f sol closed s k de.is_there.graph i n after kind de.is_there.is_open de.is_there.is_in de.ended y see) l

  -- and at an Until that is tested
  pub tested_last : (s : State Row Begun Decision Verdict) (v : Option Value) → Kept s → Stand s → Rooted m d so f sol s → Last s v
      → StoreHoldsAtTests d m writes f s v
  tested_last s v k b rt l n i after most g w j th e may ord =
      let q = test_sees m d so f sol lull out s k b rt n i after most g w j th e may in
      last_seen s v (SeenByTest d n i g j) k (λ y r e' fy wr. q.0 y r e' (not_idle y r wr) (ord y r fy wr)) q.1 l

  -- and while a leaf runs
  pub running_last : (s : State Row Begun Decision Verdict) (v : Option Value) → Kept s → Stand s → Rooted m d so f sol s → Last s v
      → StoreHoldsAtEnds d m writes f s v
  running_last s v k b rt l n i w e ord =
      last_seen s v (SeenIn d (address n i)) k (λ y r e' fy wr. at_order y r e' (not_idle y r wr) (ord y r fy wr))
      (λ y see. k.run_behind (address n i) w e y see) l
    where
      is_leaf : kind_of d n ≡ Some Leaf
      is_leaf = (k.held (address n i) w e).is_leaf

      not_open : s.opens (address n i) ≡ None
      not_open = go (s.opens (address n i)) refl
        where
          go : (o : Option (Opening Decision Verdict)) → s.opens (address n i) ≡ o → s.opens (address n i) ≡ None
          go None h = h
          go (Some u) h = absurd (k.facts n i u Leaf h is_leaf).1

      no_row : s.rows (address n i) ≡ None
      no_row = b.no_row (address n i) (inl (w, e))

      th : (after : List Need) × (kind : Kind) × IsThere d m s n i after kind
      th = b.there' (address n i) (inl (w, e))

      same_kind : th.1 ≡ Leaf
      same_kind =
          let q : Some th.1 ≡ Some Leaf = sym (kind_there m d so f sol s.opens th.2.graph i n th.0 th.1 th.2.is_open th.2.is_in).0
          ∙ is_leaf in
          cc

      at_order : (y : Address) (r : Row) → s.rows y ≡ Some r → (IsIdle m r → ⊥) → HasOrder d n Leaf i y → SeenIn d (address n i) y
      at_order y r e' ne (inl inn) =
          absurd (none_in_leaf m d so f sol s b rt n i th.0 th.1 th.2 no_row not_open y r e'
          (subst (λ z. is_in n z i y ≡ true) (sym same_kind) inn))
      at_order y r e' ne (inr h) =
          point_sees m d so f sol lull out s k th.2.graph i n th.0 th.1 th.2.is_open th.2.is_in
          (not_true (m.pinned n)
          (λ t. k.special th.2.graph i n th.0 th.1 th.2.is_open th.2.is_in (ap (λ z. z || m.reclosed n) t) no_row not_open))
          no_row y r e' ne h

-- the list of events of a store is a run
pub stores_run : {Row Begun Decision Verdict Value : Type 0} (d : Graph) (m : Source Row Begun Decision Verdict)
    (writes : Address → Row → Option Value) (s : State Row Begun Decision Verdict) (es : List Event) (s' : State Row Begun Decision Verdict)
    (v v' : Option Value) → Stores d m writes s es s' v v' → Run d m s es s'
stores_run d m writes s [] s' v v' r = r.0
stores_run d m writes s (e ∷ es) s' v v' (mid, st, rest) = (mid, st, stores_run d m writes mid es s' (written d m writes e mid v) v' rest)

module _ {Row Begun Decision Verdict Value : Type 0} (d : Graph) (m : Source Row Begun Decision Verdict) (depth : ℕ → ℕ)
    (is : IsInstance d m depth) (writes : Address → Row → Option Value) where
  pub store_holds : StoreHoldsTheLast d m depth writes
  store_holds one_order es s v r =
      let f : Table Row = meaning m depth d in let so = sol d m depth is in
      let closed = closed_is m d is.local f so is.closed in let out = nothing_special d m depth is in let lull = no_lull d m depth is in
      let run = stores_run d m writes fresh es s None v r in
      let k = kept_state d m depth is es s run in let b = busy_state d m depth is es s run in let rt = rooted_state d m depth is es s run in
      let l = run_last m d is.local f so closed out lull writes one_order fresh es s None v (kept_state d m depth is [] fresh refl)
      (busy_state d m depth is [] fresh refl) r (inl (refl, λ y q e. absurd (none-some q e))) in (
        l,
        decided_last m d is.local f so closed out lull writes one_order s v k b rt l,
        tested_last m d is.local f so closed out lull writes one_order s v k b rt l,
        running_last m d is.local f so closed out lull writes one_order s v k b rt l,
      )
