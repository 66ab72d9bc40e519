-- A state that takes an event has passed it, and what was behind it stays so.
use Rattle.std.proofs.Common.{◌≡◌, ℕ, suc, false, ◌&&◌, ◌||◌, List, Option, Some, None, ◌⊎◌, inl, inr, ⊎_elim, refl, sym, ap, ◌∙◌, subst, arith, nat_eq}
use Rattle.std.proofs.lemmas.Option.{none-some}
use Rattle.wf_layers.specs.Definition.{Kind, Leaf, Scope, Choice, Foreach, Until, Graph, shows}
use Rattle.wf_layers.specs.Address.{Address, Table, address, is_own, same_at}
use Rattle.wf_layers.specs.Source.{Source}
use Rattle.wf_layers.specs.Meaning.{meaning, skip}
use Rattle.wf_layers.specs.Facts.{Facts}
use Rattle.wf_layers.specs.Machine.{Running, Opening, State, Event, Start, Try, End, Skip, Open, Begin, Test, Close, MayTest, Step, closing, one, opened, or_else, passed_over, place, without}
use Rattle.wf_layers.proofs.Basics.{and_of, same_self, same_self_at, two, unless, when}
use Rattle.wf_layers.proofs.Tables.{own_is, place_none}
use Rattle.wf_kept.specs.Reached.{IsReached}
use Rattle.wf_kept.proofs.Informed.{reached_facts}
use Rattle.wf_one_quiet.specs.Behind.{HasRow, HasTried, HasGone, IsBehind}
use Rattle.wf_one_quiet.proofs.Ahead.{HasPassed, one_entry, some_or}
use Rattle.wf_one_quiet.proofs.Passed.{gone_on, own_entry, own_opened}

-- OTHER ADDRESSES

module _ {A : Type 0} (n : ℕ) (i : List ℕ) (t : Table A) (x : Address) (other : is_own n i x ≡ false) where
  other_entry : (v : A) → place (one n i v) t x ≡ t x
  other_entry v = ap (λ o. or_else o (t x)) (unless (is_own n i x) (Some v) None other)

  other_left : without n i t x ≡ t x
  other_left = unless (is_own n i x) None (t x) other

  other_opened : (w : Option A) → opened n i w t x ≡ t x
  other_opened w = unless (is_own n i x) w (t x) other

module _ {Row Begun Decision Verdict : Type 0} (d : Graph) (depth : ℕ → ℕ) (m : Source Row Begun Decision Verdict)
    (s q : State Row Begun Decision Verdict) (rq : IsReached d depth m q) (behind : IsBehind s q) where
  abbrev f : Table Row
  f = meaning m depth d

  fq : Facts d m f q
  fq = reached_facts d depth m q rq

  abbrev TriedIn : State Row Begun Decision Verdict → Address → Running Begun → Type 0
  TriedIn z x w = HasRow z x ⊎ ((v : Running Begun) × (z.running x ≡ Some v) × HasTried w v)

  abbrev GoneIn : State Row Begun Decision Verdict → Address → Opening Decision Verdict → Type 0
  GoneIn z x w = HasRow z x ⊎ ((v : Opening Decision Verdict) × (z.opens x ≡ Some v) × HasGone w v)

  -- a leaf that runs in both has made no more attempts in the one
  pub runs_on : (x : Address) (w v : Running Begun) → s.running x ≡ Some w → q.running x ≡ Some v → HasTried w v
  runs_on x w v e ev =
      ⊎_elim
      (λ row. absurd (none-some row.0 (sym (fq.no_row x (inl (v, ev))) ∙ row.1)))
      (λ h. subst (λ z. HasTried w z) (one_entry h.1 ev) h.2)
      (behind.running x w e)

  pub goes_further : (x : Address) (w v : Opening Decision Verdict) → s.opens x ≡ Some w → q.opens x ≡ Some v → HasGone w v
  goes_further x w v e ev =
      ⊎_elim
      (λ row. absurd (none-some row.0 (sym (fq.no_row x (inr (v, ev))) ∙ row.1)))
      (λ h. subst (λ z. HasGone w z) (one_entry h.1 ev) h.2)
      (behind.opens x w e)

  -- WHAT IS TAKEN HAS BEEN PASSED

  own_row : (n : ℕ) (i : List ℕ) (new : Table Row) (r : Row) → new (address n i) ≡ Some r
      → place new q.rows (address n i) ≡ Some r
  own_row n i new r e = ap (λ o. or_else o (q.rows (address n i))) e

  pub taken_passed : (e : Event) (q' : State Row Begun Decision Verdict) → Step d m q e q' → HasPassed e s q'
  taken_passed (Start n i) q' (after, de, pass, to) =
      subst (λ z. HasPassed (Start n i) s z) (sym to) (inr (_, own_entry n i _ q.running))
  taken_passed (Try n i) q' (v, ev, lt, to) =
      subst (λ z. HasPassed (Try n i) s z) (sym to)
      (inr (_, own_entry n i _ q.running, λ w e. let le = (runs_on (address n i) w v e ev).1 in omega (arith, le)))
  taken_passed (End n i) q' (v, ev, all, to) =
      subst (λ z. HasPassed (End n i) s z) (sym to) (_, own_entry n i _ q.rows)
  taken_passed (Skip n i) q' (after, kind, de, fails, to) =
      subst (λ z. HasPassed (Skip n i) s z) (sym to) (
        m.skipped,
        own_row n i (skip m n kind i) m.skipped
            (when ((nat_eq n n || shows kind n) && same_at i i) (Some m.skipped) None
            (and_of (nat_eq n n || shows kind n) (same_at i i) (ap (λ z. z || shows kind n) (same_self n)) (same_self_at i))),
      )
  taken_passed (Open n i) q' (after, kind, c, de, pass, to) =
      subst (λ z. HasPassed (Open n i) s z) (sym to) (inr (_, own_opened n i (Some _) q.opens))
  taken_passed (Begin n i) q' (after, kind, v, th, ev, may, to) =
      subst (λ z. HasPassed (Begin n i) s z) (sym to)
      (inr (
        _,
        own_opened n i (Some _) q.opens,
        λ w e. let le = gone_on w v (goes_further (address n i) w v e ev) in omega (arith, le),
      ))
  taken_passed (Test n i) q' (after, kind, v, j, th, ev, may, to) =
      subst (λ z. HasPassed (Test n i) s z) (sym to)
      (inr (
        _,
        own_opened n i (Some _) q.opens,
        λ w e. ⊎_elim (λ lt. inl lt) (λ same. inr (same.0, (_, refl))) (goes_further (address n i) w v e ev).1,
      ))
  taken_passed (Close n i) q' (after, kind, v, th, ev, may, to) =
      subst (λ z. HasPassed (Close n i) s z) (sym to) (_, own_entry n i _ q.rows)

  -- AND WHAT WAS BEHIND STAYS BEHIND

  kept_row : (new : Table Row) → ((x : Address) (r : Row) → place new q.rows x ≡ Some r → f x ≡ Some r) → (x : Address) (r : Row)
      → q.rows x ≡ Some r → place new q.rows x ≡ Some r
  kept_row new is x r e =
      ⊎_elim
      (λ u. u.1 ∙ sym (is x u.0 u.1) ∙ fq.rows x r e)
      (λ none. absurd (none-some r (sym (place_none new q.rows x none) ∙ e)))
      (some_or (place new q.rows x))

  -- with rows that stay, and the same running and open where they aren't touched
  module _ (z : State Row Begun Decision Verdict) (rows : (x : Address) (r : Row) → q.rows x ≡ Some r → z.rows x ≡ Some r) where
    all_run : ((x : Address) (v : Running Begun) → q.running x ≡ Some v → (w : Running Begun) → s.running x ≡ Some w → HasTried w v
        → TriedIn z x w) → (x : Address) (w : Running Begun) → s.running x ≡ Some w → TriedIn z x w
    all_run on x w e =
        ⊎_elim (λ row. inl (row.0, rows x row.0 row.1)) (λ h. on x h.0 h.1 w e h.2) (behind.running x w e)

    all_open : ((x : Address) (v : Opening Decision Verdict) → q.opens x ≡ Some v → (w : Opening Decision Verdict) → s.opens x ≡ Some w
        → HasGone w v → GoneIn z x w) → (x : Address) (w : Opening Decision Verdict) → s.opens x ≡ Some w → GoneIn z x w
    all_open on x w e =
        ⊎_elim (λ row. inl (row.0, rows x row.0 row.1)) (λ h. on x h.0 h.1 w e h.2) (behind.opens x w e)

    same_run : z.running ≡ q.running → (x : Address) (w : Running Begun) → s.running x ≡ Some w → TriedIn z x w
    same_run same = all_run (λ x v ev w e tried. inr (v, ap (λ t. t x) same ∙ ev, tried))

    same_open : z.opens ≡ q.opens → (x : Address) (w : Opening Decision Verdict) → s.opens x ≡ Some w → GoneIn z x w
    same_open same = all_open (λ x v ev w e gone. inr (v, ap (λ t. t x) same ∙ ev, gone))

  untested : (kind : Kind) (i : List ℕ) (v : Opening Decision Verdict) (j : ℕ) → MayTest m kind i v q.rows j → v.test ≡ None
  untested Leaf i v j may = absurd may
  untested (Scope g) i v j may = absurd may
  untested (Choice bs) i v j may = absurd may
  untested (Foreach pace g) i v j may = absurd may
  untested (Until most g) i v j may = may.1

  pub still_behind : (e : Event) (q' : State Row Begun Decision Verdict) → IsReached d depth m q' → Step d m q e q' → IsBehind s q'
  still_behind (Start n i) q' rq' (after, de, pass, to) =
      let b : Running Begun = record { begun = m.start (address n i) q.rows; tries = 0 } in
      let z : State Row Begun Decision Verdict =
      record { rows = q.rows; running = place (one n i b) q.running; opens = q.opens } in
      subst (λ z. IsBehind s z) (sym to) (record {
        rows = behind.rows;
        running = all_run z (λ x r e. e) (λ x v ev w e tried. ⊎_elim
            (λ o. absurd (none-some v (sym de.not_running ∙ ap q.running (own_is n i x o) ∙ ev)))
            (λ o. inr (v, other_entry n i q.running x o b ∙ ev, tried))
            (two (is_own n i x)));
        opens = behind.opens;
      })
  still_behind (Try n i) q' rq' (u, eu, lt, to) =
      let b : Running Begun = record { begun = u.begun; tries = suc u.tries } in
      subst (λ z. IsBehind s z) (sym to) (record {
        rows = behind.rows;
        running = all_run (record { rows = q.rows; running = place (one n i b) q.running; opens = q.opens }) (λ x r e. e)
            (λ x v ev w e tried. ⊎_elim
            (λ o. let at = own_is n i x o in
            inr (
              b,
              ap (place (one n i b) q.running) (sym at) ∙ own_entry n i b q.running,
              let same : u ≡ v = one_entry (ap q.running (sym at) ∙ eu) ev in
                  let count = ap (λ (z : Running Begun). z.tries) same in
                  let le = tried.1 in
                  (ap (λ (z : Running Begun). z.begun) same ∙ tried.0, omega (arith, count, le)),
            ))
            (λ o. inr (v, other_entry n i q.running x o b ∙ ev, tried))
            (two (is_own n i x)));
        opens = behind.opens;
      })
  still_behind (End n i) q' rq' (u, eu, all, to) =
      let fz = subst (λ z. Facts d m f z) to (reached_facts d depth m q' rq') in
      let r : Row = m.finish (address n i) u.begun q.rows in
      let z : State Row Begun Decision Verdict =
      record { rows = place (one n i r) q.rows; running = without n i q.running; opens = q.opens } in
      subst (λ z. IsBehind s z) (sym to) (record {
        rows = λ x r' e. kept_row (one n i r) fz.rows x r' (behind.rows x r' e);
        running = all_run z (kept_row (one n i r) fz.rows) (λ x v ev w e tried. ⊎_elim
            (λ o. inl (r, ap z.rows (sym (own_is n i x o)) ∙ own_entry n i r q.rows))
            (λ o. inr (v, other_left n i q.running x o ∙ ev, tried))
            (two (is_own n i x)));
        opens = same_open z (kept_row (one n i r) fz.rows) refl;
      })
  still_behind (Skip n i) q' rq' (after, kind, de, fails, to) =
      let fz = subst (λ z. Facts d m f z) to (reached_facts d depth m q' rq') in
      let z : State Row Begun Decision Verdict =
      record { rows = place (skip m n kind i) q.rows; running = q.running; opens = q.opens } in
      subst (λ z. IsBehind s z) (sym to) (record {
        rows = λ x r e. kept_row (skip m n kind i) fz.rows x r (behind.rows x r e);
        running = same_run z (kept_row (skip m n kind i) fz.rows) refl;
        opens = same_open z (kept_row (skip m n kind i) fz.rows) refl;
      })
  still_behind (Open n i) q' rq' (after, kind, c, de, pass, to) =
      let fz = subst (λ z. Facts d m f z) to (reached_facts d depth m q' rq') in
      let new : Table Row = passed_over m kind (m.taken (m.decide (address n i) q.rows)) i in
      let b : Opening Decision Verdict = record { decision = m.decide (address n i) q.rows; next = 0; test = None } in
      let z : State Row Begun Decision Verdict =
      record { rows = place new q.rows; running = q.running; opens = opened n i (Some b) q.opens } in
      subst (λ z. IsBehind s z) (sym to) (record {
        rows = λ x r e. kept_row new fz.rows x r (behind.rows x r e);
        running = same_run z (kept_row new fz.rows) refl;
        opens = all_open z (kept_row new fz.rows) (λ x v ev w e gone. ⊎_elim
            (λ o. absurd (none-some v (sym de.not_open ∙ ap q.opens (own_is n i x o) ∙ ev)))
            (λ o. inr (v, other_opened n i q.opens x o (Some b) ∙ ev, gone))
            (two (is_own n i x)));
      })
  still_behind (Begin n i) q' rq' (after, kind, u, th, eu, may, to) =
      let b : Opening Decision Verdict = record { decision = u.decision; next = suc u.next; test = None } in
      let z : State Row Begun Decision Verdict =
      record { rows = q.rows; running = q.running; opens = opened n i (Some b) q.opens } in
      subst (λ z. IsBehind s z) (sym to) (record {
        rows = behind.rows;
        running = behind.running;
        opens = all_open z (λ x r e. e) (λ x v ev w e gone. ⊎_elim
            (λ o. let at = own_is n i x o in
            inr (
              b,
              ap z.opens (sym at) ∙ own_opened n i (Some b) q.opens,
              let same : u ≡ v = one_entry (ap q.opens (sym at) ∙ eu) ev in
                  let count = ap (λ (z : Opening Decision Verdict). z.next) same in
                  let le = gone_on w v gone in
                  (ap (λ (z : Opening Decision Verdict). z.decision) same ∙ gone.0, inl (omega (arith, count, le))),
            ))
            (λ o. inr (v, other_opened n i q.opens x o (Some b) ∙ ev, gone))
            (two (is_own n i x)));
      })
  still_behind (Test n i) q' rq' (after, kind, u, j, th, eu, may, to) =
      let b : Opening Decision Verdict =
      record { decision = u.decision; next = u.next; test = Some (m.test (address n i) j q.rows) } in
      let z : State Row Begun Decision Verdict =
      record { rows = q.rows; running = q.running; opens = opened n i (Some b) q.opens } in
      subst (λ z. IsBehind s z) (sym to) (record {
        rows = behind.rows;
        running = behind.running;
        opens = all_open z (λ x r e. e) (λ x v ev w e gone. ⊎_elim
            (λ o. let at = own_is n i x o in
            inr (
              b,
              ap z.opens (sym at) ∙ own_opened n i (Some b) q.opens,
              let same : v ≡ u = one_entry ev (ap q.opens (sym at) ∙ eu) in
                  let gone' = subst (λ k. HasGone w k) same gone in (
                    gone'.0,
                    ⊎_elim (λ lt. inl lt)
                        (λ h. inr (h.0, λ t et. absurd (none-some t (sym (untested kind i u j may) ∙ h.1 t et))))
                        gone'.1,
                  ),
            ))
            (λ o. inr (v, other_opened n i q.opens x o (Some b) ∙ ev, gone))
            (two (is_own n i x)));
      })
  still_behind (Close n i) q' rq' (after, kind, u, th, eu, may, to) =
      let fz = subst (λ z. Facts d m f z) to (reached_facts d depth m q' rq') in
      let r : Row = closing m kind (address n i) u q.rows in
      let z : State Row Begun Decision Verdict =
      record { rows = place (one n i r) q.rows; running = q.running; opens = opened n i None q.opens } in
      subst (λ z. IsBehind s z) (sym to) (record {
        rows = λ x r' e. kept_row (one n i r) fz.rows x r' (behind.rows x r' e);
        running = same_run z (kept_row (one n i r) fz.rows) refl;
        opens = all_open z (kept_row (one n i r) fz.rows) (λ x v ev w e gone. ⊎_elim
            (λ o. inl (r, ap z.rows (sym (own_is n i x o)) ∙ own_entry n i r q.rows))
            (λ o. inr (v, other_opened n i q.opens x o None ∙ ev, gone))
            (two (is_own n i x)));
      })
