-- A concurrent loop has at most as many unfinished iterations as its limit.
use Rattle.std.proofs.Common.{◌≡◌, ℕ, zero, suc, ◌≤◌, true, List, [], ◌∷◌, ◌++◌, Option, Some, None, ⊎_elim, refl, sym, ◌∙◌, subst, arith}
use Rattle.std.proofs.lemmas.Option.{none-some}
use Rattle.wf_layers.specs.Definition.{AtMost, Foreach, Graph, done, add, kind_of}
use Rattle.wf_layers.specs.Address.{Address, address, Table, SeenIn}
use Rattle.wf_layers.specs.Source.{Source, Sound}
use Rattle.wf_layers.specs.Meaning.{skip}
use Rattle.wf_layers.specs.Rule.{Obeys}
use Rattle.wf_layers.proofs.Basics.{two, and_in, and_of, when, unless}
use Rattle.wf_layers.specs.Machine.{Opening, State, has_ended, is_ended, unfinished, or_else, place, one, opened, Event, Start, Try, End, Skip, Open, Begin, Test, Close, passed_over, MayBegin, closing, Step, Run}
use Rattle.wf_layers.proofs.Tables.{opened_split}
use Rattle.wf_layers.proofs.Open.{kind_there}

-- THE LIMIT OF A CONCURRENT LOOP

module _ {A : Type 0} where
  -- u has a row wherever t has one
  abbrev pub Grows : Table A → Table A → Type 0
  Grows t u = (y : Address) → has_ended (t y) ≡ true → has_ended (u y) ≡ true

  pub place_grows : (new t : Table A) → Grows t (place new t)
  place_grows new t y e = go (new y) e
    where
      go : (o : Option A) → has_ended (t y) ≡ true → has_ended (or_else o (t y)) ≡ true
      go None e = e
      go (Some r) e = refl

  pub ended_more : (g : Graph) (i : List ℕ) (t u : Table A) → Grows t u → is_ended g i t ≡ true → is_ended g i u ≡ true
  ended_more done i t u up e = refl
  ended_more (add n after kind rest) i t u up e =
      let h = and_in (has_ended (t (address n i))) (is_ended rest i t) e in
      and_of (has_ended (u (address n i))) (is_ended rest i u) (up (address n i) h.0) (ended_more rest i t u up h.1)

  pub one_more_unfinished : (g : Graph) (i : List ℕ) (u : Table A) (c : ℕ) → unfinished g i u (suc c) ≤ suc (unfinished g i u c)
  one_more_unfinished g i u c =
      ⊎_elim
      (λ e. let y = when (is_ended g (i ++ c ∷ []) u) (unfinished g i u c) (suc (unfinished g i u c)) e in omega (arith, y))
      (λ e. let y = unless (is_ended g (i ++ c ∷ []) u) (unfinished g i u c) (suc (unfinished g i u c)) e in omega (arith, y))
      (two (is_ended g (i ++ c ∷ []) u))

  -- with more rows, no more iterations are unfinished
  pub fewer_unfinished : (g : Graph) (i : List ℕ) (t u : Table A) → Grows t u → (c : ℕ) → unfinished g i u c ≤ unfinished g i t c
  fewer_unfinished g i t u up zero = omega arith
  fewer_unfinished g i t u up (suc c) =
      let ih = fewer_unfinished g i t u up c in
      ⊎_elim
      (λ e. let x = when (is_ended g (i ++ c ∷ []) t) (unfinished g i t c) (suc (unfinished g i t c)) e in
      let y = when (is_ended g (i ++ c ∷ []) u) (unfinished g i u c) (suc (unfinished g i u c)) (ended_more g (i ++ c ∷ []) t u up e) in
      omega (arith, x, y, ih))
      (λ e. let x = unless (is_ended g (i ++ c ∷ []) t) (unfinished g i t c) (suc (unfinished g i t c)) e in
      let y = one_more_unfinished g i u c in omega (arith, x, y, ih))
      (two (is_ended g (i ++ c ∷ []) t))

module _ {Row Begun Decision Verdict : Type 0} (m : Source Row Begun Decision Verdict) (d : Graph) (so : Sound m (SeenIn d) d 0)
    (f : Table Row) (sol : Obeys m d f) where
  abbrev LimitedTables : Table Row → Table (Opening Decision Verdict) → Type 0
  LimitedTables t o =
      (n : ℕ) (i : List ℕ) (w : Opening Decision Verdict) (most : ℕ) (h : Graph) → o (address n i) ≡ Some w
      → kind_of d n ≡ Some (Foreach (AtMost most) h) → unfinished h i t w.next ≤ most

  abbrev pub Limited : State Row Begun Decision Verdict → Type 0
  Limited s = LimitedTables s.rows s.opens

  more_rows : (t u : Table Row) (o : Table (Opening Decision Verdict)) → Grows t u → LimitedTables t o → LimitedTables u o
  more_rows t u o up l n i w most h e k = let x = fewer_unfinished h i t u up w.next in let y = l n i w most h e k in omega (arith, x, y)

  one_closed : (t : Table Row) (o : Table (Opening Decision Verdict)) (n : ℕ) (i : List ℕ) → LimitedTables t o
      → LimitedTables t (opened n i None o)
  one_closed t o n i l q j w most h e k =
      ⊎_elim (λ r. absurd (none-some w r.1)) (λ r. l q j w most h r k) (opened_split n i None o (address q j) w e)

  one_opened : (t : Table Row) (o : Table (Opening Decision Verdict)) (n : ℕ) (i : List ℕ) (w : Opening Decision Verdict)
      → LimitedTables t o → ((most : ℕ) (h : Graph) → kind_of d n ≡ Some (Foreach (AtMost most) h) → unfinished h i t w.next ≤ most)
      → LimitedTables t (opened n i (Some w) o)
  one_opened t o n i w l here' q j u most h e k =
      ⊎_elim
      (λ r. let v : w ≡ u = cc (r.1) in subst (λ (x : Address). LimitAt x u) r.0 (subst (λ z. LimitAt (address n i) z) v here') most h k)
      (λ r. l q j u most h r k)
      (opened_split n i (Some w) o (address q j) u e)
    where
      LimitAt : Address → Opening Decision Verdict → Type 0
      LimitAt x u = (most : ℕ) (h : Graph) → kind_of d x.name ≡ Some (Foreach (AtMost most) h) → unfinished h x.at t u.next ≤ most

  step_limited : (s : State Row Begun Decision Verdict) (e : Event) (s' : State Row Begun Decision Verdict) → Limited s → Step d m s e s'
      → Limited s'
  step_limited s (Start n i) s' l (after, de, pass, to) = subst Limited (sym to) l
  step_limited s (Try n i) s' l (w, e, lt, to) = subst Limited (sym to) l
  step_limited s (End n i) s' l (w, e, all, to) =
      subst Limited (sym to)
      (more_rows s.rows (place (one n i (m.finish (address n i) w.begun s.rows)) s.rows) s.opens
      (place_grows (one n i (m.finish (address n i) w.begun s.rows)) s.rows) l)
  step_limited s (Skip n i) s' l (after, kind, de, fails, to) =
      subst Limited (sym to) (more_rows s.rows (place (skip m n kind i) s.rows) s.opens (place_grows (skip m n kind i) s.rows) l)
  step_limited s (Open n i) s' l (after, kind, c, de, pass, to) =
      subst Limited (sym to)
      (one_opened (place new s.rows) s.opens n i (record { decision = m.decide (address n i) s.rows; next = 0; test = None })
      (more_rows s.rows (place new s.rows) s.opens (place_grows new s.rows) l) (λ most h k. omega arith))
    where
      new : Table Row
      new = passed_over m kind (m.taken (m.decide (address n i) s.rows)) i
  step_limited s (Begin n i) s' l (after, kind, w, th, e, may, to) =
      subst Limited (sym to)
      (one_opened s.rows s.opens n i (record { decision = w.decision; next = suc w.next; test = None }) l
      (λ most h k. begins most h (same most h k) may))
    where
      same : (most : ℕ) (h : Graph) → kind_of d n ≡ Some (Foreach (AtMost most) h) → kind ≡ Foreach (AtMost most) h
      same most h k =
          let v : Some kind ≡ Some (Foreach (AtMost most) h) =
          sym (kind_there m d so f sol s.opens th.graph i n after kind th.is_open th.is_in).0 ∙ k in cc

      begins : (most : ℕ) (h : Graph) → kind ≡ Foreach (AtMost most) h → MayBegin m kind i w s.rows
          → unfinished h i s.rows (suc w.next) ≤ most
      begins most h is may =
          let r = subst (λ k. MayBegin m k i w s.rows) is may in let x = one_more_unfinished h i s.rows w.next in omega (arith, x, r.1)
  step_limited s (Test n i) s' l (after, kind, w, j, th, e, may, to) =
      subst Limited (sym to)
      (one_opened s.rows s.opens n i (record { decision = w.decision; next = w.next; test = Some (m.test (address n i) j s.rows) }) l
      (λ most h k. l n i w most h e k))
  step_limited s (Close n i) s' l (after, kind, w, th, e, may, to) =
      subst Limited (sym to)
      (one_closed (place new s.rows) s.opens n i (more_rows s.rows (place new s.rows) s.opens (place_grows new s.rows) l))
    where
      new : Table Row
      new = one n i (closing m kind (address n i) w s.rows)

  pub run_limited : (s : State Row Begun Decision Verdict) (es : List Event) (s' : State Row Begun Decision Verdict) → Limited s
      → Run d m s es s' → Limited s'
  run_limited s [] s' l r = subst Limited (sym r) l
  run_limited s (e ∷ es) s' l (mid, st, rest) = run_limited mid es s' (step_limited s e mid l st) rest
