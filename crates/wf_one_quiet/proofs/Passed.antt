-- Where the event that one state takes has been passed in another, the one stays behind the other; and what the other takes it has passed.
use Rattle.std.proofs.Common.{◌≡◌, ℕ, suc, ◌≤◌, List, Option, Some, None, ◌⊎◌, inl, inr, ⊎_elim, refl, sym, ap, ◌∙◌, subst, arith, nat_lt, ltb-true, ltb-false}
use Rattle.std.proofs.lemmas.Option.{none-some}
use Rattle.wf_layers.specs.Definition.{Kind, Leaf, Scope, Choice, Foreach, Until, Graph, kind_of}
use Rattle.wf_layers.specs.Address.{Address, Table, address, is_own}
use Rattle.wf_layers.specs.Source.{Source}
use Rattle.wf_layers.specs.Meaning.{meaning, skip}
use Rattle.wf_layers.specs.Facts.{Facts, OpenFact}
use Rattle.wf_layers.specs.Machine.{Running, Opening, State, Event, Start, Try, End, Skip, Open, Begin, Test, Close, MayTest, Step, closing, in_others, one, opened, passed_over, place}
use Rattle.wf_layers.proofs.Basics.{held_in, two, when}
use Rattle.wf_layers.proofs.Others.{passed_in, skipped_in, some_others}
use Rattle.wf_layers.proofs.Tables.{one_is, opened_split, own_placed, own_self, place_split, without_split}
use Rattle.wf_kept.specs.Reached.{IsReached}
use Rattle.wf_kept.proofs.Informed.{kinds_are_known, reached_facts}
use Rattle.wf_one_quiet.specs.Behind.{HasRow, HasTried, HasGone, IsBehind}
use Rattle.wf_one_quiet.proofs.Ahead.{HasPassed, one_entry}

-- TABLES

pub own_entry : {A : Type 0} (n : ℕ) (i : List ℕ) (v : A) (t : Table A) → place (one n i v) t (address n i) ≡ Some v
own_entry n i v t = own_placed n i v t (λ x. Some v) (address n i) refl (own_self n i)

pub own_opened : {A : Type 0} (n : ℕ) (i : List ℕ) (w : Option A) (t : Table A) → opened n i w t (address n i) ≡ w
own_opened n i w t = when (is_own n i (address n i)) w (t (address n i)) (own_self n i)

module _ {Decision Verdict : Type 0} where
  pub gone_on : (w v : Opening Decision Verdict) → HasGone w v → w.next ≤ v.next
  gone_on w v gone = ⊎_elim (λ lt. omega (arith, lt)) (λ h. let same = h.0 in omega (arith, same)) gone.1

  -- what hasn't been tested is no further than what has begun as many
  gone_by : (w v : Opening Decision Verdict) → v.decision ≡ w.decision → w.test ≡ None → w.next ≤ v.next → HasGone w v
  gone_by w v dec none le = (
    dec,
    ⊎_elim
        (λ t. inl (ltb-true w.next v.next t))
        (λ f. inr (
          let more = ltb-false w.next v.next f in omega (arith, more, le),
          λ t e. absurd (none-some t (sym none ∙ e)),
        ))
        (two (nat_lt w.next v.next)),
  )

module _ {Row Begun Decision Verdict : Type 0} (d : Graph) (depth : ℕ → ℕ) (m : Source Row Begun Decision Verdict)
    (s : State Row Begun Decision Verdict) (rs : IsReached d depth m s) (q : State Row Begun Decision Verdict) (rq : IsReached d depth m q)
    (behind : IsBehind s q) where
  abbrev f : Table Row
  f = meaning m depth d

  fs : Facts d m f s
  fs = reached_facts d depth m s rs

  fq : Facts d m f q
  fq = reached_facts d depth m q rq

  abbrev Tried : Address → Running Begun → Type 0
  Tried x w = HasRow q x ⊎ ((v : Running Begun) × (q.running x ≡ Some v) × HasTried w v)

  abbrev Gone : Address → Opening Decision Verdict → Type 0
  Gone x w = HasRow q x ⊎ ((v : Opening Decision Verdict) × (q.opens x ≡ Some v) × HasGone w v)

  row_settled : (x : Address) → HasRow q x → q.rows x ≡ f x
  row_settled x row = row.1 ∙ sym (fq.rows x row.0 row.1)

  decides : (t : Table Row) (kind : Kind) (n : ℕ) (i : List ℕ) (w : Opening Decision Verdict) → OpenFact m f t kind n i w
      → w.decision ≡ m.decide (address n i) f
  decides t Leaf n i w h = absurd h
  decides t (Scope g) n i w h = h
  decides t (Choice bs) n i w h = h.0
  decides t (Foreach pace g) n i w h = h.0
  decides t (Until most g) n i w h = h.4

  same_decision : (n : ℕ) (i : List ℕ) (kind : Kind) (w v : Opening Decision Verdict) → kind_of d n ≡ Some kind
      → s.opens (address n i) ≡ Some w → q.opens (address n i) ≡ Some v → v.decision ≡ w.decision
  same_decision n i kind w v is e ev =
      decides q.rows kind n i v (fq.opens n i v kind ev is) ∙ sym (decides s.rows kind n i w (fs.opens n i w kind e is))

  -- THE ONE STAYS BEHIND

  rows_placed : (new : Table Row) → ((x : Address) (r : Row) → place new s.rows x ≡ Some r → f x ≡ Some r)
      → ((x : Address) (r : Row) → new x ≡ Some r → q.rows x ≡ f x) → (x : Address) (r : Row) → place new s.rows x ≡ Some r
      → q.rows x ≡ Some r
  rows_placed new is settled x r e =
      ⊎_elim (λ h. settled x r h ∙ is x r e) (λ h. behind.rows x r h) (place_split new s.rows x r e)

  row_placed : (n : ℕ) (i : List ℕ) (v : Row) → ((x : Address) (r : Row) → place (one n i v) s.rows x ≡ Some r → f x ≡ Some r)
      → HasRow q (address n i) → (x : Address) (r : Row) → place (one n i v) s.rows x ≡ Some r → q.rows x ≡ Some r
  row_placed n i v is row =
      rows_placed (one n i v) is
      (λ x r h. subst (λ (z : Address). q.rows z ≡ f z) (one_is n i v x r h).0 (row_settled (address n i) row))

  running_placed : (n : ℕ) (i : List ℕ) (b : Running Begun) → Tried (address n i) b → (x : Address) (w : Running Begun)
      → place (one n i b) s.running x ≡ Some w → Tried x w
  running_placed n i b base x w e =
      ⊎_elim
      (λ h. let o = one_is n i b x w h in subst (λ z. Tried z w) o.0 (subst (λ z. Tried (address n i) z) o.1 base))
      (λ h. behind.running x w h)
      (place_split (one n i b) s.running x w e)

  opens_placed : (n : ℕ) (i : List ℕ) (b : Opening Decision Verdict) → Gone (address n i) b → (x : Address)
      (w : Opening Decision Verdict) → opened n i (Some b) s.opens x ≡ Some w → Gone x w
  opens_placed n i b base x w e =
      ⊎_elim
      (λ h. subst (λ z. Gone z w) h.0 (subst (λ z. Gone (address n i) z) (one_entry refl h.1) base))
      (λ h. behind.opens x w h)
      (opened_split n i (Some b) s.opens x w e)

  opens_left : (n : ℕ) (i : List ℕ) (x : Address) (w : Opening Decision Verdict) → opened n i None s.opens x ≡ Some w → Gone x w
  opens_left n i x w e =
      ⊎_elim (λ h. absurd (none-some w h.1)) (λ h. behind.opens x w h) (opened_split n i None s.opens x w e)

  -- rows in branches that aren't taken
  passed_settled : (kind : Kind) (n : ℕ) (i : List ℕ) (v : Opening Decision Verdict) (c : Decision) → kind_of d n ≡ Some kind
      → q.opens (address n i) ≡ Some v → v.decision ≡ c → (x : Address) (r : Row) → passed_over m kind (m.taken c) i x ≡ Some r
      → q.rows x ≡ f x
  passed_settled Leaf n i v c is ev dec x r h = absurd (none-some r h)
  passed_settled (Scope g) n i v c is ev dec x r h = absurd (none-some r h)
  passed_settled (Choice bs) n i v c is ev dec x r h =
      (fq.opens n i v (Choice bs) ev is).1 x
      (ap (λ z. in_others bs (m.taken z) i x) dec ∙ some_others m bs (m.taken c) i x r h)
  passed_settled (Foreach pace g) n i v c is ev dec x r h = absurd (none-some r h)
  passed_settled (Until most g) n i v c is ev dec x r h = absurd (none-some r h)

  same_test : (kind : Kind) (n : ℕ) (i : List ℕ) (w u v : Opening Decision Verdict) (j : ℕ) (t t' : Verdict)
      → MayTest m kind i w s.rows j → OpenFact m f s.rows kind n i u → OpenFact m f q.rows kind n i v → u.next ≡ v.next
      → u.test ≡ Some t → v.test ≡ Some t' → v.test ≡ Some t
  same_test Leaf n i w u v j t t' may a b same e e' = absurd may
  same_test (Scope g) n i w u v j t t' may a b same e e' = absurd may
  same_test (Choice bs) n i w u v j t t' may a b same e e' = absurd may
  same_test (Foreach pace g) n i w u v j t t' may a b same e e' = absurd may
  same_test (Until most g) n i w u v j t t' may a b same e e' =
      let x = a.2 t e in let y = b.2 t' e' in
      let index : y.0 ≡ x.0 = let p = x.1 in let p' = y.1 in omega (arith, p, p', same) in
      e' ∙ ap Some (sym y.2 ∙ ap (λ z. m.test (address n i) z f) index ∙ x.2)

  pub stays_behind : (e : Event) (s' : State Row Begun Decision Verdict) → IsReached d depth m s' → Step d m s e s' → HasPassed e s q
      → IsBehind s' q
  stays_behind (Start n i) s' rs' (after, de, pass, to) passed =
      let b : Running Begun = record { begun = m.start (address n i) s.rows; tries = 0 } in
      let fz = subst (λ z. Facts d m f z) to (reached_facts d depth m s' rs') in
      subst (λ z. IsBehind z q) (sym to) (record {
        rows = behind.rows;
        running = running_placed n i b
            (⊎_elim (λ row. inl row)
            (λ v. inr (
              v.0,
              v.1,
              ((fq.running (address n i) v.0 v.1).0 ∙ sym (fz.running (address n i) b (own_entry n i b s.running)).0, omega arith),
            ))
            passed);
        opens = behind.opens;
      })
  stays_behind (Try n i) s' rs' (w, e, lt, to) passed =
      let b : Running Begun = record { begun = w.begun; tries = suc w.tries } in
      subst (λ z. IsBehind z q) (sym to) (record {
        rows = behind.rows;
        running = running_placed n i b
            (⊎_elim (λ row. inl row)
            (λ v. inr (
              v.0,
              v.1,
              (
                (fq.running (address n i) v.0 v.1).0 ∙ sym (fs.running (address n i) w e).0,
                let more = v.2 w e in omega (arith, more),
              ),
            ))
            passed);
        opens = behind.opens;
      })
  stays_behind (End n i) s' rs' (w, e, all, to) passed =
      let fz = subst (λ z. Facts d m f z) to (reached_facts d depth m s' rs') in
      subst (λ z. IsBehind z q) (sym to) (record {
        rows = row_placed n i (m.finish (address n i) w.begun s.rows) fz.rows passed;
        running = λ x u h. behind.running x u (without_split n i s.running x u h);
        opens = behind.opens;
      })
  stays_behind (Skip n i) s' rs' (after, kind, de, fails, to) passed =
      let fz = subst (λ z. Facts d m f z) to (reached_facts d depth m s' rs') in
      subst (λ z. IsBehind z q) (sym to) (record {
        rows = rows_placed (skip m n kind i) fz.rows
            (λ x r h. fq.whole n i passed.0 kind passed.1 (kinds_are_known d depth m s rs n i after kind de.is_there).0 x
            (skipped_in m kind n i x r h));
        running = behind.running;
        opens = behind.opens;
      })
  stays_behind (Open n i) s' rs' (after, kind, c, de, pass, to) passed =
      let dec = m.decide (address n i) s.rows in
      let b : Opening Decision Verdict = record { decision = dec; next = 0; test = None } in
      let fz = subst (λ z. Facts d m f z) to (reached_facts d depth m s' rs') in
      let is = (kinds_are_known d depth m s rs n i after kind de.is_there).0 in
      let new : Table Row = passed_over m kind (m.taken dec) i in
      let decided = decides (place new s.rows) kind n i b (fz.opens n i b kind (own_opened n i (Some b) s.opens) is) in
      let same : (v : Opening Decision Verdict) → q.opens (address n i) ≡ Some v → v.decision ≡ dec =
      λ v ev. decides q.rows kind n i v (fq.opens n i v kind ev is) ∙ sym decided in
      subst (λ z. IsBehind z q) (sym to) (record {
        rows = rows_placed new fz.rows
            (λ x r h. ⊎_elim
            (λ row. fq.whole n i row.0 kind row.1 is x (held_in n kind i x (passed_in m kind (m.taken dec) i x r h)))
            (λ v. passed_settled kind n i v.0 dec is v.1 (same v.0 v.1) x r h)
            passed);
        running = behind.running;
        opens = opens_placed n i b
            (⊎_elim (λ row. inl row) (λ v. inr (v.0, v.1, gone_by b v.0 (same v.0 v.1) refl (omega arith))) passed);
      })
  stays_behind (Begin n i) s' rs' (after, kind, w, th, e, may, to) passed =
      let b : Opening Decision Verdict = record { decision = w.decision; next = suc w.next; test = None } in
      let is = (kinds_are_known d depth m s rs n i after kind th).0 in
      subst (λ z. IsBehind z q) (sym to) (record {
        rows = behind.rows;
        running = behind.running;
        opens = opens_placed n i b
            (⊎_elim (λ row. inl row)
            (λ v. inr (v.0, v.1, gone_by b v.0 (same_decision n i kind w v.0 is e v.1) refl (let lt = v.2 w e in omega (arith, lt))))
            passed);
      })
  stays_behind (Test n i) s' rs' (after, kind, w, j, th, e, may, to) passed =
      let t = m.test (address n i) j s.rows in
      let b : Opening Decision Verdict = record { decision = w.decision; next = w.next; test = Some t } in
      let fz = subst (λ z. Facts d m f z) to (reached_facts d depth m s' rs') in
      let is = (kinds_are_known d depth m s rs n i after kind th).0 in
      subst (λ z. IsBehind z q) (sym to) (record {
        rows = behind.rows;
        running = behind.running;
        opens = opens_placed n i b
            (⊎_elim (λ row. inl row)
            (λ v. inr (
              v.0,
              v.1,
              (
                same_decision n i kind w v.0 is e v.1,
                ⊎_elim (λ lt. inl lt)
                    (λ h. inr (
                      h.0,
                      λ u eu. same_test kind n i w b v.0 j u h.1.0 may
                          (fz.opens n i b kind (own_opened n i (Some b) s.opens) is) (fq.opens n i v.0 kind v.1 is) h.0 eu h.1.1,
                    ))
                    (v.2 w e),
              ),
            ))
            passed);
      })
  stays_behind (Close n i) s' rs' (after, kind, w, th, e, may, to) passed =
      let fz = subst (λ z. Facts d m f z) to (reached_facts d depth m s' rs') in
      subst (λ z. IsBehind z q) (sym to) (record {
        rows = row_placed n i (closing m kind (address n i) w s.rows) fz.rows passed;
        running = behind.running;
        opens = opens_left n i;
      })
