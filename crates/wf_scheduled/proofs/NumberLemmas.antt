-- What running leaves and open loops have is numbered as the events so far say.
use Rattle.std.proofs.Common.{◌≡◌, ℕ, suc, Bool, true, false, cond, List, [], ◌∷◌, ◌++◌, Option, Some, None, append_assoc, refl, sym, ap, ◌∙◌, subst}
use Rattle.std.proofs.lemmas.List.{append-nil}
use Rattle.std.proofs.lemmas.Option.{none-some}
use Rattle.wf_layers.specs.Address.{Address, Table, address, is_own}
use Rattle.wf_layers.specs.Definition.{Graph}
use Rattle.wf_layers.specs.Meaning.{only}
use Rattle.wf_layers.specs.Machine.{Running, Opening, State, Event, Start, Try, End, Skip, Open, Begin, Test, Close, Run, Step, or_else}
use Rattle.wf_layers.specs.Source.{Source}
use Rattle.wf_layers.proofs.Tables.{own_is}
use Rattle.wf_scheduled.specs.Counts.{AreNumbered, HasNotBegun, begins_in, how_many, is_begin, is_try, tries_in}

-- of one event more
one_more : (such : Event → Bool) (es : List Event) (e : Event) → how_many such (es ++ e ∷ [])
    ≡ cond (such e) (suc (how_many such es)) (how_many such es)
one_more such [] e = refl
one_more such (x ∷ es) e = ap (λ k. cond (such x) (suc k) k) (one_more such es e) ∙ by (such x) (such e) (how_many such es)
  where
    by : (a b : Bool) (k : ℕ) → cond a (suc (cond b (suc k) k)) (cond b (suc k) k) ≡ cond b (suc (cond a (suc k) k)) (cond a (suc k) k)
    by true true k = refl
    by true false k = refl
    by false true k = refl
    by false false k = refl

-- what isn't there after rows were placed wasn't there before
not_before : {A : Type 0} (new old : Option A) → or_else new old ≡ None → old ≡ None
not_before None old none = none
not_before (Some r) old none = absurd (none-some r (sym none))

module _ {Row Begun Decision Verdict : Type 0} (d : Graph) (m : Source Row Begun Decision Verdict) where
  -- of one instance: what runs or is open there is numbered, and what has neither begun nor ended has no attempt and no iteration
  pub record Numbered (es : List Event) (s : State Row Begun Decision Verdict) (n : ℕ) (i : List ℕ) : Type 0 where
    pub tries : (w : Running Begun) → s.running (address n i) ≡ Some w → w.tries ≡ tries_in es n i
    pub no_tries : s.running (address n i) ≡ None → s.rows (address n i) ≡ None → tries_in es n i ≡ 0
    pub begun : (w : Opening Decision Verdict) → s.opens (address n i) ≡ Some w → w.next ≡ begins_in es n i
    pub not_begun : s.opens (address n i) ≡ None → s.rows (address n i) ≡ None → begins_in es n i ≡ 0

  module _ (es : List Event) (s : State Row Begun Decision Verdict) (n : ℕ) (i : List ℕ) (k : Numbered es s n i) where
    abbrev x : Address
    x = address n i

    -- how many there are, behind an event that is no Try and no Begin
    tries_stay : (e : Event) → is_try n i e ≡ false → tries_in (es ++ e ∷ []) n i ≡ tries_in es n i
    tries_stay e no' =
        one_more (is_try n i) es e ∙ ap (λ b. cond b (suc (tries_in es n i)) (tries_in es n i)) no'

    tries_rise : (e : Event) → is_try n i e ≡ true → tries_in (es ++ e ∷ []) n i ≡ suc (tries_in es n i)
    tries_rise e yes' =
        one_more (is_try n i) es e ∙ ap (λ b. cond b (suc (tries_in es n i)) (tries_in es n i)) yes'

    begins_stay : (e : Event) → is_begin n i e ≡ false → begins_in (es ++ e ∷ []) n i ≡ begins_in es n i
    begins_stay e no' =
        one_more (is_begin n i) es e ∙ ap (λ b. cond b (suc (begins_in es n i)) (begins_in es n i)) no'

    begins_rise : (e : Event) → is_begin n i e ≡ true → begins_in (es ++ e ∷ []) n i ≡ suc (begins_in es n i)
    begins_rise e yes' =
        one_more (is_begin n i) es e ∙ ap (λ b. cond b (suc (begins_in es n i)) (begins_in es n i)) yes'

    -- a leaf that starts has made no attempt
    start_tries : (q : ℕ) (j : List ℕ) (v w : Running Begun) → v.tries ≡ 0 → s.running (address q j) ≡ None
        → s.rows (address q j) ≡ None → (b : Bool) → is_own q j x ≡ b → or_else (only b (Some v)) (s.running x) ≡ Some w
        → w.tries ≡ tries_in es n i
    start_tries q j v w none idle no_row true own found =
        let same : v ≡ w = cc in
        let here = own_is q j x own in
        ap (λ (u : Running Begun). u.tries) (sym same) ∙ none
        ∙ sym (k.no_tries (subst (λ y. s.running y ≡ None) here idle) (subst (λ y. s.rows y ≡ None) here no_row))
    start_tries q j v w none idle no_row false own found = k.tries w found

    started : (q : ℕ) (j : List ℕ) (v : Running Begun) (s' : State Row Begun Decision Verdict) → v.tries ≡ 0
        → s.running (address q j) ≡ None → s.rows (address q j) ≡ None
        → s' ≡ record { rows = s.rows; running = λ y. or_else (only (is_own q j y) (Some v)) (s.running y); opens = s.opens }
        → Numbered (es ++ Start q j ∷ []) s' n i
    started q j v s' none idle no_row to =
        subst (λ t. Numbered (es ++ Start q j ∷ []) t n i) (sym to) (record {
          tries = λ w found. start_tries q j v w none idle no_row (is_own q j x) refl found ∙ sym (tries_stay (Start q j) refl);
          no_tries = λ gone row. tries_stay (Start q j) refl
              ∙ k.no_tries (not_before (only (is_own q j x) (Some v)) (s.running x) gone) row;
          begun = λ w found. k.begun w found ∙ sym (begins_stay (Start q j) refl);
          not_begun = λ gone row. begins_stay (Start q j) refl ∙ k.not_begun gone row;
        })

    -- a Try makes one more
    try_tries : (q : ℕ) (j : List ℕ) (u v w : Running Begun) → v.tries ≡ suc u.tries → s.running (address q j) ≡ Some u
        → (b : Bool) → is_own q j x ≡ b → or_else (only b (Some v)) (s.running x) ≡ Some w
        → w.tries ≡ tries_in (es ++ Try q j ∷ []) n i
    try_tries q j u v w next runs true own found =
        let same : v ≡ w = cc in
        ap (λ (r : Running Begun). r.tries) (sym same) ∙ next
        ∙ ap suc (k.tries u (subst (λ y. s.running y ≡ Some u) (own_is q j x own) runs)) ∙ sym (tries_rise (Try q j) own)
    try_tries q j u v w next runs false own found = k.tries w found ∙ sym (tries_stay (Try q j) own)

    try_none : (q : ℕ) (j : List ℕ) (v : Running Begun) (b : Bool) → is_own q j x ≡ b
        → or_else (only b (Some v)) (s.running x) ≡ None → s.rows x ≡ None → tries_in (es ++ Try q j ∷ []) n i ≡ 0
    try_none q j v true own gone row = absurd (none-some v (sym gone))
    try_none q j v false own gone row = tries_stay (Try q j) own ∙ k.no_tries gone row

    tried : (q : ℕ) (j : List ℕ) (u v : Running Begun) (s' : State Row Begun Decision Verdict) → v.tries ≡ suc u.tries
        → s.running (address q j) ≡ Some u
        → s' ≡ record { rows = s.rows; running = λ y. or_else (only (is_own q j y) (Some v)) (s.running y); opens = s.opens }
        → Numbered (es ++ Try q j ∷ []) s' n i
    tried q j u v s' next runs to =
        subst (λ t. Numbered (es ++ Try q j ∷ []) t n i) (sym to) (record {
          tries = λ w found. try_tries q j u v w next runs (is_own q j x) refl found;
          no_tries = λ gone row. try_none q j v (is_own q j x) refl gone row;
          begun = λ w found. k.begun w found ∙ sym (begins_stay (Try q j) refl);
          not_begun = λ gone row. begins_stay (Try q j) refl ∙ k.not_begun gone row;
        })

    -- one that ends has a row
    end_tries : (b : Bool) (w : Running Begun) → cond b None (s.running x) ≡ Some w → w.tries ≡ tries_in es n i
    end_tries true w found = absurd (none-some w found)
    end_tries false w found = k.tries w found

    end_none : (b : Bool) (r : Row) → cond b None (s.running x) ≡ None → or_else (only b (Some r)) (s.rows x) ≡ None
        → tries_in es n i ≡ 0
    end_none true r gone row = absurd (none-some r (sym row))
    end_none false r gone row = k.no_tries gone row

    ended : (q : ℕ) (j : List ℕ) (r : Row) (s' : State Row Begun Decision Verdict)
        → s' ≡ record {
          rows = λ y. or_else (only (is_own q j y) (Some r)) (s.rows y);
          running = λ y. cond (is_own q j y) None (s.running y);
          opens = s.opens;
        }
        → Numbered (es ++ End q j ∷ []) s' n i
    ended q j r s' to =
        subst (λ t. Numbered (es ++ End q j ∷ []) t n i) (sym to) (record {
          tries = λ w found. end_tries (is_own q j x) w found ∙ sym (tries_stay (End q j) refl);
          no_tries = λ gone row. tries_stay (End q j) refl ∙ end_none (is_own q j x) r gone row;
          begun = λ w found. k.begun w found ∙ sym (begins_stay (End q j) refl);
          not_begun = λ gone row. begins_stay (End q j) refl
              ∙ k.not_begun gone (not_before (only (is_own q j x) (Some r)) (s.rows x) row);
        })

    -- rows alone
    passed : (e : Event) (new : Table Row) (s' : State Row Begun Decision Verdict) → is_try n i e ≡ false → is_begin n i e ≡ false
        → s' ≡ record { rows = λ y. or_else (new y) (s.rows y); running = s.running; opens = s.opens }
        → Numbered (es ++ e ∷ []) s' n i
    passed e new s' no_try no_begin to =
        subst (λ t. Numbered (es ++ e ∷ []) t n i) (sym to) (record {
          tries = λ w found. k.tries w found ∙ sym (tries_stay e no_try);
          no_tries = λ gone row. tries_stay e no_try ∙ k.no_tries gone (not_before (new x) (s.rows x) row);
          begun = λ w found. k.begun w found ∙ sym (begins_stay e no_begin);
          not_begun = λ gone row. begins_stay e no_begin ∙ k.not_begun gone (not_before (new x) (s.rows x) row);
        })

    -- a container that opens has begun no iteration
    open_begun : (q : ℕ) (j : List ℕ) (v w : Opening Decision Verdict) → v.next ≡ 0 → s.opens (address q j) ≡ None
        → s.rows (address q j) ≡ None → (b : Bool) → is_own q j x ≡ b → cond b (Some v) (s.opens x) ≡ Some w
        → w.next ≡ begins_in es n i
    open_begun q j v w none shut no_row true own found =
        let same : v ≡ w = cc in
        let here = own_is q j x own in
        ap (λ (u : Opening Decision Verdict). u.next) (sym same) ∙ none
        ∙ sym (k.not_begun (subst (λ y. s.opens y ≡ None) here shut) (subst (λ y. s.rows y ≡ None) here no_row))
    open_begun q j v w none shut no_row false own found = k.begun w found

    still_shut : (b : Bool) (v : Opening Decision Verdict) → cond b (Some v) (s.opens x) ≡ None → s.opens x ≡ None
    still_shut true v gone = absurd (none-some v (sym gone))
    still_shut false v gone = gone

    entered : (q : ℕ) (j : List ℕ) (new : Table Row) (v : Opening Decision Verdict) (s' : State Row Begun Decision Verdict) → v.next ≡ 0
        → s.opens (address q j) ≡ None → s.rows (address q j) ≡ None
        → s' ≡ record {
          rows = λ y. or_else (new y) (s.rows y);
          running = s.running;
          opens = λ y. cond (is_own q j y) (Some v) (s.opens y);
        }
        → Numbered (es ++ Open q j ∷ []) s' n i
    entered q j new v s' none shut no_row to =
        subst (λ t. Numbered (es ++ Open q j ∷ []) t n i) (sym to) (record {
          tries = λ w found. k.tries w found ∙ sym (tries_stay (Open q j) refl);
          no_tries = λ gone row. tries_stay (Open q j) refl ∙ k.no_tries gone (not_before (new x) (s.rows x) row);
          begun = λ w found. open_begun q j v w none shut no_row (is_own q j x) refl found ∙ sym (begins_stay (Open q j) refl);
          not_begun = λ gone row. begins_stay (Open q j) refl
              ∙ k.not_begun (still_shut (is_own q j x) v gone) (not_before (new x) (s.rows x) row);
        })

    -- a Begin begins one more
    begin_begun : (q : ℕ) (j : List ℕ) (u v w : Opening Decision Verdict) → v.next ≡ suc u.next → s.opens (address q j) ≡ Some u
        → (b : Bool) → is_own q j x ≡ b → cond b (Some v) (s.opens x) ≡ Some w → w.next ≡ begins_in (es ++ Begin q j ∷ []) n i
    begin_begun q j u v w next open' true own found =
        let same : v ≡ w = cc in
        ap (λ (r : Opening Decision Verdict). r.next) (sym same) ∙ next
        ∙ ap suc (k.begun u (subst (λ y. s.opens y ≡ Some u) (own_is q j x own) open')) ∙ sym (begins_rise (Begin q j) own)
    begin_begun q j u v w next open' false own found = k.begun w found ∙ sym (begins_stay (Begin q j) own)

    begin_none : (q : ℕ) (j : List ℕ) (v : Opening Decision Verdict) (b : Bool) → is_own q j x ≡ b
        → cond b (Some v) (s.opens x) ≡ None → s.rows x ≡ None → begins_in (es ++ Begin q j ∷ []) n i ≡ 0
    begin_none q j v true own gone row = absurd (none-some v (sym gone))
    begin_none q j v false own gone row = begins_stay (Begin q j) own ∙ k.not_begun gone row

    turned : (q : ℕ) (j : List ℕ) (u v : Opening Decision Verdict) (s' : State Row Begun Decision Verdict) → v.next ≡ suc u.next
        → s.opens (address q j) ≡ Some u
        → s' ≡ record { rows = s.rows; running = s.running; opens = λ y. cond (is_own q j y) (Some v) (s.opens y) }
        → Numbered (es ++ Begin q j ∷ []) s' n i
    turned q j u v s' next open' to =
        subst (λ t. Numbered (es ++ Begin q j ∷ []) t n i) (sym to) (record {
          tries = λ w found. k.tries w found ∙ sym (tries_stay (Begin q j) refl);
          no_tries = λ gone row. tries_stay (Begin q j) refl ∙ k.no_tries gone row;
          begun = λ w found. begin_begun q j u v w next open' (is_own q j x) refl found;
          not_begun = λ gone row. begin_none q j v (is_own q j x) refl gone row;
        })

    -- a Test begins none
    test_begun : (q : ℕ) (j : List ℕ) (u v w : Opening Decision Verdict) → v.next ≡ u.next → s.opens (address q j) ≡ Some u
        → (b : Bool) → is_own q j x ≡ b → cond b (Some v) (s.opens x) ≡ Some w → w.next ≡ begins_in es n i
    test_begun q j u v w next open' true own found =
        let same : v ≡ w = cc in
        ap (λ (r : Opening Decision Verdict). r.next) (sym same) ∙ next
        ∙ k.begun u (subst (λ y. s.opens y ≡ Some u) (own_is q j x own) open')
    test_begun q j u v w next open' false own found = k.begun w found

    tested : (q : ℕ) (j : List ℕ) (u v : Opening Decision Verdict) (s' : State Row Begun Decision Verdict) → v.next ≡ u.next
        → s.opens (address q j) ≡ Some u
        → s' ≡ record { rows = s.rows; running = s.running; opens = λ y. cond (is_own q j y) (Some v) (s.opens y) }
        → Numbered (es ++ Test q j ∷ []) s' n i
    tested q j u v s' next open' to =
        subst (λ t. Numbered (es ++ Test q j ∷ []) t n i) (sym to) (record {
          tries = λ w found. k.tries w found ∙ sym (tries_stay (Test q j) refl);
          no_tries = λ gone row. tries_stay (Test q j) refl ∙ k.no_tries gone row;
          begun = λ w found. test_begun q j u v w next open' (is_own q j x) refl found ∙ sym (begins_stay (Test q j) refl);
          not_begun = λ gone row. begins_stay (Test q j) refl ∙ k.not_begun (still_shut (is_own q j x) v gone) row;
        })

    -- what closes has a row
    close_begun : (b : Bool) (w : Opening Decision Verdict) → cond b None (s.opens x) ≡ Some w → w.next ≡ begins_in es n i
    close_begun true w found = absurd (none-some w found)
    close_begun false w found = k.begun w found

    close_none : (b : Bool) (r : Row) → cond b None (s.opens x) ≡ None → or_else (only b (Some r)) (s.rows x) ≡ None
        → begins_in es n i ≡ 0
    close_none true r gone row = absurd (none-some r (sym row))
    close_none false r gone row = k.not_begun gone row

    closed : (q : ℕ) (j : List ℕ) (r : Row) (s' : State Row Begun Decision Verdict)
        → s' ≡ record {
          rows = λ y. or_else (only (is_own q j y) (Some r)) (s.rows y);
          running = s.running;
          opens = λ y. cond (is_own q j y) None (s.opens y);
        }
        → Numbered (es ++ Close q j ∷ []) s' n i
    closed q j r s' to =
        subst (λ t. Numbered (es ++ Close q j ∷ []) t n i) (sym to) (record {
          tries = λ w found. k.tries w found ∙ sym (tries_stay (Close q j) refl);
          no_tries = λ gone row. tries_stay (Close q j) refl
              ∙ k.no_tries gone (not_before (only (is_own q j x) (Some r)) (s.rows x) row);
          begun = λ w found. close_begun (is_own q j x) w found ∙ sym (begins_stay (Close q j) refl);
          not_begun = λ gone row. begins_stay (Close q j) refl ∙ close_none (is_own q j x) r gone row;
        })

    -- so each event keeps it
    pub one_event : (e : Event) (s' : State Row Begun Decision Verdict) → Step d m s e s' → Numbered (es ++ e ∷ []) s' n i
    one_event (Start q j) s' (after, de, pass, to) = started q j _ s' refl de.not_running de.no_row to
    one_event (Try q j) s' (w, e, lt, to) = tried q j w _ s' refl e to
    one_event (End q j) s' (w, e, all, to) = ended q j _ s' to
    one_event (Skip q j) s' (after, kind, de, fails, to) = passed (Skip q j) _ s' refl refl to
    one_event (Open q j) s' (after, kind, c, de, pass, to) = entered q j _ _ s' refl de.not_open de.no_row to
    one_event (Begin q j) s' (after, kind, w, th, e, may, to) = turned q j w _ s' refl e to
    one_event (Test q j) s' (after, kind, w, l, th, e, may, to) = tested q j w _ s' refl e to
    one_event (Close q j) s' (after, kind, w, th, e, may, to) = closed q j _ s' to

  -- and so does each run
  pub numbered_run : (n : ℕ) (i : List ℕ) (es : List Event) (s s' : State Row Begun Decision Verdict) (before : List Event)
      → Numbered before s n i → Run d m s es s' → Numbered (before ++ es) s' n i
  numbered_run n i [] s s' before k run =
      subst (λ t. Numbered (before ++ []) t n i) (sym run) (subst (λ es. Numbered es s n i) (sym (append-nil before)) k)
  numbered_run n i (e ∷ es) s s' before k (mid, st, run) =
      subst (λ zs. Numbered zs s' n i) (append_assoc before (e ∷ []) es)
      (numbered_run n i es mid s' (before ++ e ∷ []) (one_event before s n i k e mid st) run)

  pub numbered : (first s : State Row Begun Decision Verdict) (es : List Event) → HasNotBegun first → Run d m first es s → AreNumbered es s
  numbered first s es new run = record {
    tries = λ n i w found. (whole n i).tries w found;
    begun = λ n i w found. (whole n i).begun w found;
  }
    where
      whole : (n : ℕ) (i : List ℕ) → Numbered es s n i
      whole n i =
          numbered_run n i es first s [] (record {
            tries = λ w found. absurd (none-some w (sym (new.running (address n i)) ∙ found));
            no_tries = λ gone row. refl;
            begun = λ w found. new.opens (address n i) w found;
            not_begun = λ gone row. refl;
          }) run
