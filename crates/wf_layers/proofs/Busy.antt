-- A running leaf and an open container stand in open graphs, and have no row yet.
use Rattle.std.proofs.Common.{◌≡◌, ℕ, suc, ◌≤◌, true, ◌||◌, List, [], ◌∷◌, ◌++◌, Option, Some, None, ◌⊎◌, inl, inr, ⊎_elim, refl, sym, ap, ◌∙◌, subst, arith, nat_eq, eqb-true, true≢false, length}
use Rattle.std.proofs.lemmas.Bool.{eqb-false}
use Rattle.std.proofs.lemmas.Option.{none-some}
use Rattle.wf_layers.specs.Definition.{Need, Kind, Leaf, Scope, Choice, Foreach, Until, Graph, branch_at, has_any, shows, kind_of, IsBefore}
use Rattle.wf_layers.specs.Address.{Address, address, Table, same_at, starts, is_own, is_within, SeenIn}
use Rattle.wf_layers.specs.Source.{Source, Sound}
use Rattle.wf_layers.specs.Meaning.{skip}
use Rattle.wf_layers.specs.Rule.{Obeys}
use Rattle.wf_layers.proofs.Basics.{two, and_in, and_of, not_true, when, unless, own_in, held_in}
use Rattle.wf_layers.specs.Machine.{Running, Opening, State, In, IsOpen, top, scope, chosen, turn, round, is_ended, or_else, place, one, without, opened, Event, Start, Try, End, Skip, Open, Begin, Test, Close, passed_over, MayClose, closing, IsThere, Step, Run}
use Rattle.wf_layers.proofs.Tables.{same_at_is, own_is, own_self, one_is, place_split, without_split, opened_split, skip_in, shows_holds, taken_within}
use Rattle.wf_layers.proofs.Places.{within_of}
use Rattle.wf_layers.specs.Facts.{Settled, IsBusy}
use Rattle.wf_layers.proofs.Open.{Placed, open_sub, placed_in, kind_there, fact_of, outer}
use Rattle.wf_layers.proofs.Keeps.{Keeps, IsClosed, SpecialOut}
use Rattle.wf_layers.proofs.Events.{own_row, ended_settled, step_keeps}
use Rattle.wf_layers.proofs.Called.{others_only}
use Rattle.wf_layers.proofs.Others.{others_among, some_others}
use Rattle.wf_layers.proofs.Positions.{not_under}

-- RUNNING AND OPEN INSTANCES STAND IN OPEN GRAPHS, AND HAVE NO ROW

module _ {Decision Verdict : Type 0} (taken : Decision → ℕ) (d : Graph) where
  -- with more open, and further iterations begun, open graphs stay open
  pub open_grows : (o u : Table (Opening Decision Verdict))
      → ((x : Address) (w : Opening Decision Verdict) → o x ≡ Some w
      → (v : Opening Decision Verdict) × (u x ≡ Some v) × (v.decision ≡ w.decision) × (w.next ≤ v.next)) → (g : Graph) (i : List ℕ)
      → IsOpen taken d o g i → IsOpen taken d u g i
  open_grows o u up _ _ top = top
  open_grows o u up _ i (scope {g = g} {n = n} {w = w} og st e) = let r = up (address n i) w e in scope (open_grows o u up g i og) st r.1
  open_grows o u up _ i (chosen {g = g} {b = b} {n = n} {bs = bs} {w = w} og st e is) =
      let r = up (address n i) w e in chosen (open_grows o u up g i og) st r.1 (ap (λ p. branch_at bs (taken p)) r.2 ∙ is)
  open_grows o u up _ _ (turn {g = g} {i = i} {n = n} {w = w} j og st e lt) =
      let r = up (address n i) w e in let le = r.3 in turn j (open_grows o u up g i og) st r.1 (omega (arith, le, lt))
  open_grows o u up _ _ (round {g = g} {i = i} {n = n} {w = w} j og st e lt) =
      let r = up (address n i) w e in let le = r.3 in round j (open_grows o u up g i og) st r.1 (omega (arith, le, lt))

module _ {Row Begun Decision Verdict : Type 0} (m : Source Row Begun Decision Verdict) (d : Graph) (so : Sound m (SeenIn d) d 0)
    (f : Table Row) (sol : Obeys m d f) where
  abbrev pub StandsOpen : State Row Begun Decision Verdict → Address → Type 0
  StandsOpen s x = (after : List Need) × (kind : Kind) × IsThere d m s x.name x.at after kind

  pub record Busy (s : State Row Begun Decision Verdict) : Type 0 where
    pub there' : (x : Address) → IsBusy s x → StandsOpen s x
    pub no_row : (x : Address) → IsBusy s x → s.rows x ≡ None

  -- a busy instance isn't inside an action that isn't open, at its indexes
  busy_under : (s : State Row Begun Decision Verdict) → Busy s → (n : ℕ) (i : List ℕ) (kind : Kind) → kind_of d n ≡ Some kind
      → s.opens (address n i) ≡ None → (y : Address) → IsBusy s y → shows kind y.name ≡ true → same_at i y.at ≡ true → ⊥
  busy_under s b n i kind k none y busy sh at =
      let r = b.there' y busy in
      not_under m d so f sol s.opens r.2.graph y.at y.name r.0 r.1 r.2.is_open r.2.is_in n kind k sh
      (subst (λ j. s.opens (address n j) ≡ None) (same_at_is i y.at at) none)

  -- not both running and open
  busy_once : (s : State Row Begun Decision Verdict) → Keeps m d so f sol s
      → (x : Address) (w : Running Begun) (v : Opening Decision Verdict) → s.running x ≡ Some w → s.opens x ≡ Some v → ⊥
  busy_once s k x w v e h = (k.facts x.name x.at v Leaf h (k.held x w e).is_leaf).1

  -- f has a row for a busy instance
  busy_row : (s : State Row Begun Decision Verdict) → Keeps m d so f sol s → Busy s → (x : Address) → IsBusy s x → f x ≡ None → ⊥
  busy_row s k b x (inl h) e = none-some (m.finish x h.0.begun f) (sym e ∙ (k.held x h.0 h.1).gives f (λ y see. refl))
  busy_row s k b x (inr h) e =
      let r = b.there' x (inr h) in
      own_row m d so f sol s.rows s.opens k.facts r.2.graph x.at x.name r.0 r.1 r.2.is_open r.2.is_in
      (fact_of m d so f sol s.rows s.opens k.facts r.2.graph x.at x.name r.0 r.1 h.0 r.2.is_open r.2.is_in h.1).0.free e

  -- as a container closes, a graph that was open still is, or all in it is there
  pub close_path : (s : State Row Begun Decision Verdict) → Keeps m d so f sol s → (n : ℕ) (i : List ℕ) (after : List Need) (kind : Kind)
      (w : Opening Decision Verdict) → IsThere d m s n i after kind → s.opens (address n i) ≡ Some w → MayClose m kind i w s.rows
      → (g : Graph) (j : List ℕ) → IsOpen m.taken d s.opens g j → IsOpen m.taken d (opened n i None s.opens) g j ⊎ Settled m f s.rows g j
  close_path s k n i after kind w th e may _ _ top = inl top
  close_path s k n i after kind w th e may _ j (scope {g = g} {h = h} {n = c} {after = ca} {w = v} og st ce) =
      ⊎_elim
      (λ o. ⊎_elim
      (λ t. inr (closing_scope t))
      (λ u. inl (scope o st (unless (is_own n i (address c j)) None (s.opens (address c j)) u ∙ ce)))
      (two (is_own n i (address c j))))
      (λ q. inr (λ y z. q y (inner_within y z)))
      (close_path s k n i after kind w th e may g j og)
    where
      pl : Placed m d so f sol (length j) g c ca (Scope h)
      pl = placed_in m d so f sol (length j) g c ca (Scope h) (open_sub m d so f sol s.opens g j og) st

      inner_within : (y : Address) → is_within h j y ≡ true → is_within g j y ≡ true
      inner_within y z = within_of m (IsBefore d) (SeenIn d) (length j) g c ca (Scope h) pl j y (held_in c (Scope h) j y z)

      closing_scope : is_own n i (address c j) ≡ true → Settled m f s.rows h j
      closing_scope t =
          let q : address n i ≡ address c j = own_is n i (address c j) t in
          let v1 : Some kind ≡ Some (Scope h) = sym (kind_there m d so f sol s.opens th.graph i n after kind th.is_open th.is_in).0
          ∙ ap (λ (x : Address). kind_of d x.name) q ∙ (kind_there m d so f sol s.opens g j c ca (Scope h) og st).0 in
          let is : kind ≡ Scope h = cc in
          ended_settled m d so f sol s k h j (scope og st ce)
          (subst (λ x. is_ended h x s.rows ≡ true) (ap (λ (x : Address). x.at) q) (subst (λ z. MayClose m z i w s.rows) is may))
  close_path s k n i after kind w th e may _ j (chosen {g = g} {b = b} {n = c} {after = ca} {bs = bs} {w = v} og st ce is') =
      ⊎_elim
      (λ o. ⊎_elim
      (λ t. inr (closing_choice t))
      (λ u. inl (chosen o st (unless (is_own n i (address c j)) None (s.opens (address c j)) u ∙ ce) is'))
      (two (is_own n i (address c j))))
      (λ q. inr (λ y z. q y (inner_within y z)))
      (close_path s k n i after kind w th e may g j og)
    where
      pl : Placed m d so f sol (length j) g c ca (Choice bs)
      pl = placed_in m d so f sol (length j) g c ca (Choice bs) (open_sub m d so f sol s.opens g j og) st

      inner_within : (y : Address) → is_within b j y ≡ true → is_within g j y ≡ true
      inner_within y z =
          within_of m (IsBefore d) (SeenIn d) (length j) g c ca (Choice bs) pl j y
          (held_in c (Choice bs) j y (taken_within b bs (m.taken v.decision) is' j y z))

      closing_choice : is_own n i (address c j) ≡ true → Settled m f s.rows b j
      closing_choice t =
          let q : address n i ≡ address c j = own_is n i (address c j) t in
          let v1 : Some kind ≡ Some (Choice bs) = sym (kind_there m d so f sol s.opens th.graph i n after kind th.is_open th.is_in).0
          ∙ ap (λ (x : Address). kind_of d x.name) q ∙ (kind_there m d so f sol s.opens g j c ca (Choice bs) og st).0 in
          let is : kind ≡ Choice bs = cc in
          let v2 : Some w ≡ Some v = sym e ∙ ap s.opens q ∙ ce in let iw : w ≡ v = cc in
          ended_settled m d so f sol s k b j (chosen og st ce is')
          ((subst (λ x. MayClose m (Choice bs) x v s.rows) (ap (λ (x : Address). x.at) q)
          (subst (λ z. MayClose m (Choice bs) i z s.rows) iw (subst (λ z. MayClose m z i w s.rows) is may))) b is')
  close_path s k n i after kind w th e may _ _ (turn {g = g} {h = h} {i = l} {n = c} {after = ca} {pace = pace} {w = v} j og st ce lt) =
      ⊎_elim
      (λ o. ⊎_elim
      (λ t. inr (closing_loop t))
      (λ u. inl (turn j o st (unless (is_own n i (address c l)) None (s.opens (address c l)) u ∙ ce) lt))
      (two (is_own n i (address c l))))
      (λ q. inr (λ y z. q y (inner_within y z)))
      (close_path s k n i after kind w th e may g l og)
    where
      pl : Placed m d so f sol (length l) g c ca (Foreach pace h)
      pl = placed_in m d so f sol (length l) g c ca (Foreach pace h) (open_sub m d so f sol s.opens g l og) st

      inner_within : (y : Address) → is_within h (l ++ j ∷ []) y ≡ true → is_within g l y ≡ true
      inner_within y z =
          within_of m (IsBefore d) (SeenIn d) (length l) g c ca (Foreach pace h) pl l y
          (held_in c (Foreach pace h) l y (outer m d so f sol h l j y z))

      closing_loop : is_own n i (address c l) ≡ true → Settled m f s.rows h (l ++ j ∷ [])
      closing_loop t =
          let q : address n i ≡ address c l = own_is n i (address c l) t in
          let v1 : Some kind ≡ Some (Foreach pace h) = sym (kind_there m d so f sol s.opens th.graph i n after kind th.is_open th.is_in).0
          ∙ ap (λ (x : Address). kind_of d x.name) q ∙ (kind_there m d so f sol s.opens g l c ca (Foreach pace h) og st).0 in
          let is : kind ≡ Foreach pace h = cc in
          let v2 : Some w ≡ Some v = sym e ∙ ap s.opens q ∙ ce in let iw : w ≡ v = cc in
          let may' = subst (λ x. MayClose m (Foreach pace h) x v s.rows) (ap (λ (x : Address). x.at) q)
          (subst (λ z. MayClose m (Foreach pace h) i z s.rows) iw (subst (λ z. MayClose m z i w s.rows) is may)) in
          ended_settled m d so f sol s k h (l ++ j ∷ []) (turn j og st ce lt) (may'.1 j lt)
  close_path s k n i after kind w th e may _ _ (round {g = g} {h = h} {i = l} {n = c} {most = most} {after = ca} {w = v} j og st ce lt) =
      ⊎_elim
      (λ o. ⊎_elim
      (λ t. inr (closing_loop t))
      (λ u. inl (round j o st (unless (is_own n i (address c l)) None (s.opens (address c l)) u ∙ ce) lt))
      (two (is_own n i (address c l))))
      (λ q. inr (λ y z. q y (inner_within y z)))
      (close_path s k n i after kind w th e may g l og)
    where
      pl : Placed m d so f sol (length l) g c ca (Until most h)
      pl = placed_in m d so f sol (length l) g c ca (Until most h) (open_sub m d so f sol s.opens g l og) st

      inner_within : (y : Address) → is_within h (l ++ j ∷ []) y ≡ true → is_within g l y ≡ true
      inner_within y z =
          within_of m (IsBefore d) (SeenIn d) (length l) g c ca (Until most h) pl l y
          (held_in c (Until most h) l y (outer m d so f sol h l j y z))

      closing_loop : is_own n i (address c l) ≡ true → Settled m f s.rows h (l ++ j ∷ [])
      closing_loop t =
          let q : address n i ≡ address c l = own_is n i (address c l) t in
          let v1 : Some kind ≡ Some (Until most h) = sym (kind_there m d so f sol s.opens th.graph i n after kind th.is_open th.is_in).0
          ∙ ap (λ (x : Address). kind_of d x.name) q ∙ (kind_there m d so f sol s.opens g l c ca (Until most h) og st).0 in
          let is : kind ≡ Until most h = cc in
          let v2 : Some w ≡ Some v = sym e ∙ ap s.opens q ∙ ce in let iw : w ≡ v = cc in
          let may' = subst (λ z. MayClose m (Until most h) i z s.rows) iw (subst (λ z. MayClose m z i w s.rows) is may) in
          let fact = (fact_of m d so f sol s.rows s.opens k.facts g l c ca (Until most h) v og st ce).1 in
          let last' = fact.2 may'.0 may'.1 in
          ⊎_elim
          (λ z. subst (λ x. Settled m f s.rows h (l ++ x ∷ [])) (sym (eqb-true j last'.0 z)) last'.3)
          (λ z. let ne = eqb-false j last'.0 z in let x = last'.1 in (fact.1 j (omega (arith, ne, x, lt))).1)
          (two (nat_eq j last'.0))

  -- KEPT BY EACH EVENT
  stands_on : (s s' : State Row Begun Decision Verdict) (x : Address)
      → ((g : Graph) (i : List ℕ) → IsOpen m.taken d s.opens g i → IsOpen m.taken d s'.opens g i) → StandsOpen s x → StandsOpen s' x
  stands_on s s' x up r = (r.0, r.1, record { graph = r.2.graph; is_open = up r.2.graph x.at r.2.is_open; is_in = r.2.is_in })

  -- where new rows stand only at what isn't busy
  same_row : (s : State Row Begun Decision Verdict) (new : Table Row) (x : Address) → Busy s → IsBusy s x → ((r : Row) → new x ≡ Some r → ⊥)
      → place new s.rows x ≡ None
  same_row s new x b busy free = go (new x) refl
    where
      go : (o : Option Row) → new x ≡ o → place new s.rows x ≡ None
      go None e = ap (λ o. or_else o (s.rows x)) e ∙ b.no_row x busy
      go (Some r) e = absurd (free r e)

  pub step_busy : SpecialOut m d so f sol → (s : State Row Begun Decision Verdict) (e : Event) (s' : State Row Begun Decision Verdict)
      → Keeps m d so f sol s → Busy s → Step d m s e s' → Busy s'
  step_busy out s (Start n i) s' k b (after, de, pass, to) = subst Busy (sym to) (record {
    there' =
        λ x busy. stands_on s (record { rows = s.rows; running = place (one n i v) s.running; opens = s.opens }) x (λ g j og. og)
        (⊎_elim (λ own. subst (λ (z : Address). StandsOpen s z) own (after, Leaf, de.is_there)) (λ old. b.there' x old) (was x busy));
    no_row = λ x busy. ⊎_elim (λ own. subst (λ (z : Address). s.rows z ≡ None) own de.no_row) (λ old. b.no_row x old) (was x busy);
  })
    where
      v : Running Begun
      v = record { begun = m.start (address n i) s.rows; tries = 0 }

      was : (x : Address) → ((w : Running Begun) × (place (one n i v) s.running x ≡ Some w))
          ⊎ ((w : Opening Decision Verdict) × (s.opens x ≡ Some w)) → (address n i ≡ x) ⊎ IsBusy s x
      was x (inl h) = ⊎_elim (λ q. inl (one_is n i v x h.0 q).0) (λ q. inr (inl (h.0, q))) (place_split (one n i v) s.running x h.0 h.1)
      was x (inr h) = inr (inr h)
  step_busy out s (Try n i) s' k b (w, e, lt, to) =
      subst Busy (sym to) (record {
        there' =
            λ x busy. stands_on s (record { rows = s.rows; running = place (one n i v) s.running; opens = s.opens }) x (λ g j og. og)
            (b.there' x (was x busy));
        no_row = λ x busy. b.no_row x (was x busy);
      })
    where
      v : Running Begun
      v = record { begun = w.begun; tries = suc w.tries }

      was : (x : Address) → ((u : Running Begun) × (place (one n i v) s.running x ≡ Some u))
          ⊎ ((u : Opening Decision Verdict) × (s.opens x ≡ Some u)) → IsBusy s x
      was x (inl h) =
          ⊎_elim (λ q. inl (w, ap s.running (sym (one_is n i v x h.0 q).0) ∙ e)) (λ q. inl (h.0, q))
          (place_split (one n i v) s.running x h.0 h.1)
      was x (inr h) = inr h
  step_busy out s (End n i) s' k b (w, e, all, to) = subst Busy (sym to) (record {
    there' =
        λ x busy. stands_on s (record { rows = place (one n i r) s.rows; running = without n i s.running; opens = s.opens }) x
        (λ g j og. og) (b.there' x (was x busy).0);
    no_row = λ x busy. same_row s (one n i r) x b (was x busy).0 (λ q h. (was x busy).1 (one_is n i r x q h).0);
  })
    where
      r : Row
      r = m.finish (address n i) w.begun s.rows

      was : (x : Address) → ((u : Running Begun) × (without n i s.running x ≡ Some u))
          ⊎ ((u : Opening Decision Verdict) × (s.opens x ≡ Some u)) → IsBusy s x × (address n i ≡ x → ⊥)
      was x (inl h) = (
        inl (h.0, without_split n i s.running x h.0 h.1),
        λ q. none-some h.0 (sym (when (is_own n i x) None (s.running x) (subst (λ (z : Address). is_own n i z ≡ true) q (own_self n i)))
            ∙ h.1),
      )
      was x (inr h) = (inr h, λ q. busy_once s k x w h.0 (ap s.running (sym q) ∙ e) h.1)
  step_busy out s (Skip n i) s' k b (after, kind, de, fails, to) = subst Busy (sym to) (record {
    there' =
        λ x busy. stands_on s (record { rows = place (skip m n kind i) s.rows; running = s.running; opens = s.opens }) x (λ g j og. og)
        (b.there' x busy);
    no_row = λ x busy. same_row s (skip m n kind i) x b busy (λ r h. none_there x busy r h);
  })
    where
      none_there : (x : Address) → IsBusy s x → (r : Row) → skip m n kind i x ≡ Some r → ⊥
      none_there x busy r h =
          let q = skip_in m n kind i x r h in
          ⊎_elim
          (λ t. let own = own_is n i x (and_of (nat_eq n x.name) (same_at i x.at) t q.1) in
          ⊎_elim (λ z. none-some z.0 (sym de.not_running ∙ ap s.running own ∙ z.1))
          (λ z. none-some z.0 (sym de.not_open ∙ ap s.opens own ∙ z.1)) busy)
          (λ u. busy_under s b n i kind
          (kind_there m d so f sol s.opens de.is_there.graph i n after kind de.is_there.is_open de.is_there.is_in).0 de.not_open x busy
          (sym (ap (λ z. z || shows kind x.name) u) ∙ q.0) q.1)
          (two (nat_eq n x.name))
  step_busy out s (Open n i) s' k b (after, kind, c, de, pass, to) = subst Busy (sym to) (record {
    there' = λ x busy. stands_on s (record { rows = place new s.rows; running = s.running; opens = opened n i (Some w) s.opens }) x
        (open_grows m.taken d s.opens (opened n i (Some w) s.opens)
        (λ y v e. (
          v,
          unless (is_own n i y) (Some w) (s.opens y)
              (not_true (is_own n i y) (λ t. none-some v (sym de.not_open ∙ ap s.opens (own_is n i y t) ∙ e))) ∙ e,
          refl,
          omega arith,
        )))
        (⊎_elim (λ own. subst (λ (z : Address). StandsOpen s z) own (after, kind, de.is_there)) (λ old. b.there' x old) (was x busy));
    no_row =
        λ x busy. ⊎_elim (λ own. subst (λ (z : Address). place new s.rows z ≡ None) own own_none)
        (λ old. same_row s new x b old (λ r h. none_there x old r h)) (was x busy);
  })
    where
      w : Opening Decision Verdict
      w = record { decision = m.decide (address n i) s.rows; next = 0; test = None }

      number : ℕ
      number = m.taken (m.decide (address n i) s.rows)

      new : Table Row
      new = passed_over m kind number i

      kn : kind_of d n ≡ Some kind
      kn = (kind_there m d so f sol s.opens de.is_there.graph i n after kind de.is_there.is_open de.is_there.is_in).0

      pl : Placed m d so f sol (length i) de.is_there.graph n after kind
      pl =
          placed_in m d so f sol (length i) de.is_there.graph n after kind
          (open_sub m d so f sol s.opens de.is_there.graph i de.is_there.is_open) de.is_there.is_in

      was : (x : Address) → ((u : Running Begun) × (s.running x ≡ Some u))
          ⊎ ((u : Opening Decision Verdict) × (opened n i (Some w) s.opens x ≡ Some u)) → (address n i ≡ x) ⊎ IsBusy s x
      was x (inl h) = inr (inl h)
      was x (inr h) = ⊎_elim (λ q. inl q.0) (λ q. inr (inr (h.0, q))) (opened_split n i (Some w) s.opens x h.0 h.1)

      -- the rows that Open places are inside it, and in no loop of it
      placed_shows : (kind : Kind) → In de.is_there.graph n after kind → (x : Address) (r : Row) → passed_over m kind number i x ≡ Some r
          → (shows kind x.name ≡ true) × (same_at i x.at ≡ true)
      placed_shows Leaf st x r h = absurd (none-some r h)
      placed_shows (Scope g) st x r h = absurd (none-some r h)
      placed_shows (Choice bs) st x r h =
          let am = others_among bs number i x (some_others m bs number i x r h) in
          others_only m (SeenIn d) bs number i x r
          (not_true (m.pinned x.name) (λ t. k.special de.is_there.graph i n after (Choice bs) de.is_there.is_open st
          (out s.opens de.is_there.graph i n after (Choice bs) de.is_there.is_open st x.name
          (and_in (has_any bs x.name) (starts i x.at) am).0 (ap (λ z. z || m.reclosed x.name) t)) de.no_row de.not_open)) h
      placed_shows (Foreach pace g) st x r h = absurd (none-some r h)
      placed_shows (Until most g) st x r h = absurd (none-some r h)

      none_there : (x : Address) → IsBusy s x → (r : Row) → new x ≡ Some r → ⊥
      none_there x busy r h = let q = placed_shows kind de.is_there.is_in x r h in busy_under s b n i kind kn de.not_open x busy q.0 q.1

      own_none : place new s.rows (address n i) ≡ None
      own_none = go (new (address n i)) refl
        where
          go : (o : Option Row) → new (address n i) ≡ o → place new s.rows (address n i) ≡ None
          go None e = ap (λ o. or_else o (s.rows (address n i))) e ∙ de.no_row
          go (Some r) e =
              absurd (true≢false (sym (shows_holds kind n (placed_shows kind de.is_there.is_in (address n i) r e).0) ∙ pl.apart_own))
  step_busy out s (Begin n i) s' k b (after, kind, w, th, e, may, to) =
      subst Busy (sym to) (iterates (record { decision = w.decision; next = suc w.next; test = None }) refl (omega arith))
    where
      iterates : (v : Opening Decision Verdict) → v.decision ≡ w.decision → w.next ≤ v.next
          → Busy (record { rows = s.rows; running = s.running; opens = opened n i (Some v) s.opens })
      iterates v same le = record {
        there' =
            λ x busy. stands_on s (record { rows = s.rows; running = s.running; opens = opened n i (Some v) s.opens }) x
            (open_grows m.taken d s.opens (opened n i (Some v) s.opens) up) (b.there' x (was x busy));
        no_row = λ x busy. b.no_row x (was x busy);
      }
        where
          was : (x : Address) → ((u : Running Begun) × (s.running x ≡ Some u))
              ⊎ ((u : Opening Decision Verdict) × (opened n i (Some v) s.opens x ≡ Some u)) → IsBusy s x
          was x (inl h) = inl h
          was x (inr h) = ⊎_elim (λ q. inr (w, ap s.opens (sym q.0) ∙ e)) (λ q. inr (h.0, q)) (opened_split n i (Some v) s.opens x h.0 h.1)

          up : (y : Address) (u : Opening Decision Verdict) → s.opens y ≡ Some u
              → (z : Opening Decision Verdict) × (opened n i (Some v) s.opens y ≡ Some z) × (z.decision ≡ u.decision) × (u.next ≤ z.next)
          up y u h =
              ⊎_elim
              (λ t. let q : Some w ≡ Some u = sym e ∙ ap s.opens (own_is n i y t) ∙ h in let is : w ≡ u = cc in
              (v, when (is_own n i y) (Some v) (s.opens y) t, same ∙ ap (λ z. z.decision) is, subst (λ z. z.next ≤ v.next) is le))
              (λ t. (u, unless (is_own n i y) (Some v) (s.opens y) t ∙ h, refl, omega arith))
              (two (is_own n i y))
  step_busy out s (Test n i) s' k b (after, kind, w, j, th, e, may, to) =
      subst Busy (sym to) (iterates (record { decision = w.decision; next = w.next; test = Some (m.test (address n i) j s.rows) }) refl
      (omega arith))
    where
      iterates : (v : Opening Decision Verdict) → v.decision ≡ w.decision → w.next ≤ v.next
          → Busy (record { rows = s.rows; running = s.running; opens = opened n i (Some v) s.opens })
      iterates v same le = record {
        there' =
            λ x busy. stands_on s (record { rows = s.rows; running = s.running; opens = opened n i (Some v) s.opens }) x
            (open_grows m.taken d s.opens (opened n i (Some v) s.opens) up) (b.there' x (was x busy));
        no_row = λ x busy. b.no_row x (was x busy);
      }
        where
          was : (x : Address) → ((u : Running Begun) × (s.running x ≡ Some u))
              ⊎ ((u : Opening Decision Verdict) × (opened n i (Some v) s.opens x ≡ Some u)) → IsBusy s x
          was x (inl h) = inl h
          was x (inr h) = ⊎_elim (λ q. inr (w, ap s.opens (sym q.0) ∙ e)) (λ q. inr (h.0, q)) (opened_split n i (Some v) s.opens x h.0 h.1)

          up : (y : Address) (u : Opening Decision Verdict) → s.opens y ≡ Some u
              → (z : Opening Decision Verdict) × (opened n i (Some v) s.opens y ≡ Some z) × (z.decision ≡ u.decision) × (u.next ≤ z.next)
          up y u h =
              ⊎_elim
              (λ t. let q : Some w ≡ Some u = sym e ∙ ap s.opens (own_is n i y t) ∙ h in let is : w ≡ u = cc in
              (v, when (is_own n i y) (Some v) (s.opens y) t, same ∙ ap (λ z. z.decision) is, subst (λ z. z.next ≤ v.next) is le))
              (λ t. (u, unless (is_own n i y) (Some v) (s.opens y) t ∙ h, refl, omega arith))
              (two (is_own n i y))
  step_busy out s (Close n i) s' k b (after, kind, w, th, e, may, to) = subst Busy (sym to) (record {
    there' = λ x busy. let z = was x busy in let r = b.there' x z.0 in
        ⊎_elim
        (λ o. (r.0, r.1, record { graph = r.2.graph; is_open = o; is_in = r.2.is_in }))
        (λ q. absurd (busy_row s k b x z.0 (sym (q x (within_own x r)) ∙ b.no_row x z.0)))
        (close_path s k n i after kind w th e may r.2.graph x.at r.2.is_open);
    no_row =
        λ x busy. same_row s new x b (was x busy).0 (λ q h. (was x busy).1 (one_is n i (closing m kind (address n i) w s.rows) x q h).0);
  })
    where
      new : Table Row
      new = one n i (closing m kind (address n i) w s.rows)

      was : (x : Address) → ((u : Running Begun) × (s.running x ≡ Some u))
          ⊎ ((u : Opening Decision Verdict) × (opened n i None s.opens x ≡ Some u)) → IsBusy s x × (address n i ≡ x → ⊥)
      was x (inl h) = (inl h, λ q. busy_once s k x h.0 w h.1 (ap s.opens (sym q) ∙ e))
      was x (inr h) = ⊎_elim
          (λ q. absurd (none-some h.0 q.1))
          (λ q. (
            inr (h.0, q),
            λ z. none-some h.0 (sym (when (is_own n i x) None (s.opens x) (subst (λ (y : Address). is_own n i y ≡ true) z (own_self n i)))
                ∙ h.1),
          ))
          (opened_split n i None s.opens x h.0 h.1)

      within_own : (x : Address) (r : StandsOpen s x) → is_within r.2.graph x.at x ≡ true
      within_own x r =
          let pl = placed_in m d so f sol (length x.at) r.2.graph x.name r.0 r.1
          (open_sub m d so f sol s.opens r.2.graph x.at r.2.is_open) r.2.is_in in
          within_of m (IsBefore d) (SeenIn d) (length x.at) r.2.graph x.name r.0 r.1 pl x.at x (own_in x.name r.1 x.at)

  pub run_busy : IsClosed m d so f sol → SpecialOut m d so f sol → (s : State Row Begun Decision Verdict) (es : List Event)
      (s' : State Row Begun Decision Verdict) → Keeps m d so f sol s → Busy s → Run d m s es s' → Busy s'
  run_busy closed out s [] s' k b r = subst Busy (sym r) b
  run_busy closed out s (e ∷ es) s' k b (mid, st, rest) =
      run_busy closed out mid es s' (step_keeps m d so f sol closed out s e mid k st) (step_busy out s e mid k b st) rest
