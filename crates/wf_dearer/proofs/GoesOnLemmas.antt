-- What becomes of what a state has: a row stays a row, a running leaf makes attempts or gets a row, and so does an open container with
-- iterations.
use Rattle.std.proofs.Common.{◌≡◌, ◌≤◌, ℕ, suc, true, false, List, [], ◌∷◌, Option, Some, None, ◌⊎◌, inl, inr, ⊎_elim, refl, sym}
use Rattle.std.proofs.Common.{ap, ◌∙◌, subst, arith}
use Rattle.std.proofs.lemmas.Option.{none-some}
use Rattle.wf_layers.specs.Address.{Address, Table, address, is_own}
use Rattle.wf_layers.specs.Definition.{Graph}
use Rattle.wf_layers.specs.Machine.{Event, Start, Try, End, Skip, Open, Begin, Test, Close, Opening, Run, Running, State, Step}
use Rattle.wf_layers.specs.Machine.{closing, one, opened, passed_over, or_else, place}
use Rattle.wf_layers.specs.Meaning.{skip}
use Rattle.wf_layers.specs.Source.{Source}
use Rattle.wf_layers.proofs.Basics.{two, when, unless}
use Rattle.wf_layers.proofs.Tables.{own_is}

-- Whether an entry is there.
abbrev pub IsThere : {A : Type 0} → Table A → Address → Type 0
IsThere {A} t x = (a : A) × (t x ≡ Some a)

still_there : {A : Type 0} (new t : Table A) (x : Address) → IsThere t x → IsThere (place new t) x
still_there {A} new t x (a, e) = go (new x) refl
  where
    go : (o : Option A) → new x ≡ o → IsThere (place new t) x
    go None h = (a, ap (λ o. or_else o (t x)) h ∙ e)
    go (Some b) h = (b, ap (λ o. or_else o (t x)) h)

placed : {A : Type 0} (n : ℕ) (i : List ℕ) (a : A) (t : Table A) (x : Address) → is_own n i x ≡ true → place (one n i a) t x ≡ Some a
placed n i a t x own = ap (λ o. or_else o (t x)) (when (is_own n i x) (Some a) None own)

elsewhere : {A : Type 0} (n : ℕ) (i : List ℕ) (a : A) (t : Table A) (x : Address) → is_own n i x ≡ false
    → place (one n i a) t x ≡ t x
elsewhere n i a t x other = ap (λ o. or_else o (t x)) (unless (is_own n i x) (Some a) None other)

-- what stands at an address where nothing does
never_there : {A : Type 0} (n : ℕ) (i : List ℕ) (t : Table A) → t (address n i) ≡ None → (x : Address) → is_own n i x ≡ true → (a : A)
    → t x ≡ Some a → ⊥
never_there n i t none x own a e = none-some a (sym (subst (λ z. t z ≡ None) (own_is n i x own) none) ∙ e)

same_entry : {A : Type 0} (n : ℕ) (i : List ℕ) (t : Table A) (a : A) → t (address n i) ≡ Some a → (x : Address) → is_own n i x ≡ true
    → (b : A) → t x ≡ Some b → a ≡ b
same_entry n i t a there x own b e =
    let is : Some a ≡ Some b = sym (subst (λ z. t z ≡ Some a) (own_is n i x own) there) ∙ e in cc (is)

-- the leaf has begun as it had, and made no fewer attempts
abbrev pub RunsOn : {Begun : Type 0} → Running Begun → Running Begun → Type 0
RunsOn w v = (v.begun ≡ w.begun) × (w.tries ≤ v.tries)

-- the container keeps what it decided, and has begun no fewer iterations
abbrev pub StaysOpen : {Decision Verdict : Type 0} → Opening Decision Verdict → Opening Decision Verdict → Type 0
StaysOpen w v = (v.decision ≡ w.decision) × (w.next ≤ v.next)

module _ {Row Begun Decision Verdict : Type 0} where
  pub record GoesOn (s q : State Row Begun Decision Verdict) : Type 0 where
    pub rows : (x : Address) → IsThere s.rows x → IsThere q.rows x
    pub leaves : (x : Address) (w : Running Begun) → s.running x ≡ Some w
        → ((v : Running Begun) × (q.running x ≡ Some v) × RunsOn w v) ⊎ IsThere q.rows x
    pub opens : (x : Address) (w : Opening Decision Verdict) → s.opens x ≡ Some w
        → ((v : Opening Decision Verdict) × (q.opens x ≡ Some v) × StaysOpen w v) ⊎ IsThere q.rows x

  by_itself : (s : State Row Begun Decision Verdict) → GoesOn s s
  by_itself s = record {
    rows = λ x r. r;
    leaves = λ x w e. inl (w, e, (refl, omega arith));
    opens = λ x w e. inl (w, e, (refl, omega arith));
  }

  in_turn : (s mid q : State Row Begun Decision Verdict) → GoesOn s mid → GoesOn mid q → GoesOn s q
  in_turn s mid q a b = record {
    rows = λ x r. b.rows x (a.rows x r);
    leaves = λ x w e. ⊎_elim
        (λ u. ⊎_elim
        (λ v. let first = u.2.1 in let next = v.2.1 in inl (v.0, v.1, (v.2.0 ∙ u.2.0, omega (arith, first, next)))) (λ r. inr r)
        (b.leaves x u.0 u.1))
        (λ r. inr (b.rows x r)) (a.leaves x w e);
    opens = λ x w e. ⊎_elim
        (λ u. ⊎_elim
        (λ v. let first = u.2.1 in let next = v.2.1 in inl (v.0, v.1, (v.2.0 ∙ u.2.0, omega (arith, first, next)))) (λ r. inr r)
        (b.opens x u.0 u.1))
        (λ r. inr (b.rows x r)) (a.opens x w e);
  }

  module _ (d : Graph) (m : Source Row Begun Decision Verdict) where
    abbrev St : Type 0
    St = State Row Begun Decision Verdict

    rows_stay : (s : St) (e : Event) (s' : St) → Step d m s e s' → (x : Address) → IsThere s.rows x → IsThere s'.rows x
    rows_stay s (Start n i) s' (after, de, pass, to) x r = (r.0, ap (λ (z : St). z.rows x) to ∙ r.1)
    rows_stay s (Try n i) s' (w, is, lt, to) x r = (r.0, ap (λ (z : St). z.rows x) to ∙ r.1)
    rows_stay s (End n i) s' (w, is, all, to) x r =
        subst (λ (z : St). IsThere z.rows x) (sym to)
        (still_there (one n i (m.finish (address n i) w.begun s.rows)) s.rows x r)
    rows_stay s (Skip n i) s' (after, kind, de, fails, to) x r =
        subst (λ (z : St). IsThere z.rows x) (sym to) (still_there (skip m n kind i) s.rows x r)
    rows_stay s (Open n i) s' (after, kind, c, de, pass, to) x r =
        subst (λ (z : St). IsThere z.rows x) (sym to)
        (still_there (passed_over m kind (m.taken (m.decide (address n i) s.rows)) i) s.rows x r)
    rows_stay s (Begin n i) s' (after, kind, w, th, is, may, to) x r = (r.0, ap (λ (z : St). z.rows x) to ∙ r.1)
    rows_stay s (Test n i) s' (after, kind, w, j, th, is, may, to) x r = (r.0, ap (λ (z : St). z.rows x) to ∙ r.1)
    rows_stay s (Close n i) s' (after, kind, w, th, is, may, to) x r =
        subst (λ (z : St). IsThere z.rows x) (sym to)
        (still_there (one n i (closing m kind (address n i) w s.rows)) s.rows x r)

    abbrev LeafGoesOn : St → Address → Running Begun → Type 0
    LeafGoesOn q x w = ((v : Running Begun) × (q.running x ≡ Some v) × RunsOn w v) ⊎ IsThere q.rows x

    -- a leaf that an event leaves as it is
    left_running : (s s' : St) (x : Address) (w : Running Begun) → s.running x ≡ Some w → s'.running x ≡ s.running x → LeafGoesOn s' x w
    left_running s s' x w e same = inl (w, same ∙ e, (refl, omega arith))

    leaves_go_on : (s : St) (e : Event) (s' : St) → Step d m s e s' → (x : Address) (w : Running Begun) → s.running x ≡ Some w
        → LeafGoesOn s' x w
    leaves_go_on s (Start n i) s' (after, de, pass, to) x w e =
        ⊎_elim (λ own. absurd (never_there n i s.running de.not_running x own w e))
        (λ other. left_running s s' x w e (ap (λ (z : St). z.running x) to ∙ elsewhere n i _ s.running x other)) (two (is_own n i x))
    leaves_go_on s (Try n i) s' (v, is, lt, to) x w e =
        ⊎_elim
        (λ own. let same = same_entry n i s.running v is x own w e in
        let tries = ap (λ (u : Running Begun). u.tries) same in
        inl (
          record { begun = v.begun; tries = suc v.tries },
          ap (λ (z : St). z.running x) to ∙ placed n i _ s.running x own,
          (ap (λ (u : Running Begun). u.begun) same, omega (arith, tries)),
        ))
        (λ other. left_running s s' x w e (ap (λ (z : St). z.running x) to ∙ elsewhere n i _ s.running x other)) (two (is_own n i x))
    leaves_go_on s (End n i) s' (v, is, all, to) x w e =
        ⊎_elim (λ own. inr (m.finish (address n i) v.begun s.rows, ap (λ (z : St). z.rows x) to ∙ placed n i _ s.rows x own))
        (λ other. left_running s s' x w e (ap (λ (z : St). z.running x) to ∙ unless (is_own n i x) None (s.running x) other))
        (two (is_own n i x))
    leaves_go_on s (Skip n i) s' (after, kind, de, fails, to) x w e = left_running s s' x w e (ap (λ (z : St). z.running x) to)
    leaves_go_on s (Open n i) s' (after, kind, c, de, pass, to) x w e = left_running s s' x w e (ap (λ (z : St). z.running x) to)
    leaves_go_on s (Begin n i) s' (after, kind, v, th, is, may, to) x w e = left_running s s' x w e (ap (λ (z : St). z.running x) to)
    leaves_go_on s (Test n i) s' (after, kind, v, j, th, is, may, to) x w e = left_running s s' x w e (ap (λ (z : St). z.running x) to)
    leaves_go_on s (Close n i) s' (after, kind, v, th, is, may, to) x w e = left_running s s' x w e (ap (λ (z : St). z.running x) to)

    abbrev OpenGoesOn : St → Address → Opening Decision Verdict → Type 0
    OpenGoesOn q x w = ((v : Opening Decision Verdict) × (q.opens x ≡ Some v) × StaysOpen w v) ⊎ IsThere q.rows x

    left_open : (s s' : St) (x : Address) (w : Opening Decision Verdict) → s.opens x ≡ Some w → s'.opens x ≡ s.opens x → OpenGoesOn s' x w
    left_open s s' x w e same = inl (w, same ∙ e, (refl, omega arith))

    -- one that an event changes at its own address: it keeps what it decided, and has begun so many iterations
    changed : (s s' : St) (n : ℕ) (i : List ℕ) (v u : Opening Decision Verdict) → s.opens (address n i) ≡ Some v → u.decision ≡ v.decision
        → v.next ≤ u.next → ((x : Address) → s'.opens x ≡ opened n i (Some u) s.opens x)
        → (x : Address) (w : Opening Decision Verdict) → s.opens x ≡ Some w → OpenGoesOn s' x w
    changed s s' n i v u is decides more to x w e =
        ⊎_elim
        (λ own. let same = same_entry n i s.opens v is x own w e in
        let begun = ap (λ (z : Opening Decision Verdict). z.next) same in
        inl (
          u,
          to x ∙ when (is_own n i x) (Some u) (s.opens x) own,
          (decides ∙ ap (λ (z : Opening Decision Verdict). z.decision) same, omega (arith, more, begun)),
        ))
        (λ other. left_open s s' x w e (to x ∙ unless (is_own n i x) (Some u) (s.opens x) other)) (two (is_own n i x))

    opens_go_on : (s : St) (e : Event) (s' : St) → Step d m s e s' → (x : Address) (w : Opening Decision Verdict) → s.opens x ≡ Some w
        → OpenGoesOn s' x w
    opens_go_on s (Start n i) s' (after, de, pass, to) x w e = left_open s s' x w e (ap (λ (z : St). z.opens x) to)
    opens_go_on s (Try n i) s' (v, is, lt, to) x w e = left_open s s' x w e (ap (λ (z : St). z.opens x) to)
    opens_go_on s (End n i) s' (v, is, all, to) x w e = left_open s s' x w e (ap (λ (z : St). z.opens x) to)
    opens_go_on s (Skip n i) s' (after, kind, de, fails, to) x w e = left_open s s' x w e (ap (λ (z : St). z.opens x) to)
    opens_go_on s (Open n i) s' (after, kind, c, de, pass, to) x w e =
        ⊎_elim (λ own. absurd (never_there n i s.opens de.not_open x own w e))
        (λ other. left_open s s' x w e (ap (λ (z : St). z.opens x) to ∙ unless (is_own n i x) _ (s.opens x) other)) (two (is_own n i x))
    opens_go_on s (Begin n i) s' (after, kind, v, th, is, may, to) x w e =
        changed s s' n i v (record { decision = v.decision; next = suc v.next; test = None }) is refl (omega arith)
        (λ y. ap (λ (z : St). z.opens y) to) x w e
    opens_go_on s (Test n i) s' (after, kind, v, j, th, is, may, to) x w e =
        changed s s' n i v (record { decision = v.decision; next = v.next; test = Some (m.test (address n i) j s.rows) }) is refl
        (omega arith) (λ y. ap (λ (z : St). z.opens y) to) x w e
    opens_go_on s (Close n i) s' (after, kind, v, th, is, may, to) x w e =
        ⊎_elim (λ own. inr (_, ap (λ (z : St). z.rows x) to ∙ placed n i _ s.rows x own))
        (λ other. left_open s s' x w e (ap (λ (z : St). z.opens x) to ∙ unless (is_own n i x) None (s.opens x) other)) (two (is_own n i x))

    step_goes_on : (s : St) (e : Event) (s' : St) → Step d m s e s' → GoesOn s s'
    step_goes_on s e s' st = record {
      rows = rows_stay s e s' st;
      leaves = leaves_go_on s e s' st;
      opens = opens_go_on s e s' st;
    }

    pub run_goes_on : (s : St) (es : List Event) (q : St) → Run d m s es q → GoesOn s q
    run_goes_on s [] q run = subst (λ (z : St). GoesOn s z) (sym run) (by_itself s)
    run_goes_on s (e ∷ es) q (mid, st, more) = in_turn s mid q (step_goes_on s e mid st) (run_goes_on mid es q more)
