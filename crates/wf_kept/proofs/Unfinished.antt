-- What an event makes of the number of a Foreach's unfinished iterations.
use Rattle.std.proofs.Common.{◌≡◌, ℕ, zero, suc, ◌<◌, ◌-◌, Bool, true, false, ◌&&◌, cond, List, [], ◌∷◌, ◌++◌, Option, Some, None, ◌⊎◌, inl, inr, ⊎_elim, refl, sym, ap, ◌∙◌, subst, arith, nat_eq, eqb-true, true≢false}
use Rattle.std.proofs.lemmas.Option.{none-some}
use Rattle.std.proofs.lemmas.Bool.{eqb-false}
use Rattle.wf_layers.specs.Definition.{Need, Pace, Kind, Foreach, Graph, done, add, has_own, kind_of}
use Rattle.wf_layers.specs.Address.{Address, address, Table, same_at, is_own, SeenIn}
use Rattle.wf_layers.specs.Source.{Source, Sound}
use Rattle.wf_layers.specs.Meaning.{meaning}
use Rattle.wf_layers.specs.Rule.{Obeys}
use Rattle.wf_layers.specs.Machine.{Opening, State, IsOpen, turn, has_ended, is_ended, unfinished, opened, Event, Start, Try, End, Skip, Open, Begin, Test, Close, place_of, IsThere, Step}
use Rattle.wf_layers.specs.Changes.{places}
use Rattle.wf_layers.specs.Waiting.{lacking}
use Rattle.wf_layers.proofs.Basics.{two, and_in, and_of, not_true, same_self, same_self_at, when, unless, or_first, or_second}
use Rattle.wf_layers.proofs.Tables.{own_is, own_self, same_at_is}
use Rattle.wf_layers.proofs.Open.{kind_there}
use Rattle.wf_layers.proofs.Keeps.{Keeps, IsClosed, SpecialOut}
use Rattle.wf_layers.proofs.Busy.{Busy}
use Rattle.wf_layers.proofs.Rooted.{Rooted}
use Rattle.wf_layers.proofs.Waiting.{counts_are}
use Rattle.wf_layers.proofs.Changes.{ended_row}
use Rattle.wf_kept.specs.Reached.{IsReached}
use Rattle.wf_kept.specs.Counted.{nonzero, size, IsInner, in_turn, AreCounts}
use Rattle.wf_kept.specs.Event.{AreLeft, AreLeftAfter}
use Rattle.wf_kept.proofs.Known.{known}
use Rattle.wf_kept.proofs.Counts.{not_new, opened_or_new, new_empty, no_row_yet, own_there, other_same}

-- ---- numbers of iterations

find_turn : (c : ℕ) (P : ℕ → Bool) → ((j : ℕ) × (j < c) × (P j ≡ true)) ⊎ ((j : ℕ) → j < c → P j ≡ false)
find_turn zero P = inr (λ j lt. absurd (omega (arith, lt)))
find_turn (suc c) P =
    ⊎_elim
    (λ t. inl (c, omega arith, t))
    (λ u. ⊎_elim (λ z. let lt = z.1 in inl (z.0, omega (arith, lt), z.2))
    (λ none. inr (λ j lt. ⊎_elim (λ same. ap P (eqb-true j c same) ∙ u)
    (λ ne. let ne' = eqb-false j c ne in none j (omega (arith, lt, ne'))) (two (nat_eq j c))))
    (find_turn c P))
    (two (P c))

unfinished_same : {A : Type 0} (h : Graph) (i : List ℕ) (t u : Table A) (c : ℕ)
    → ((j : ℕ) → j < c → is_ended h (i ++ j ∷ []) t ≡ is_ended h (i ++ j ∷ []) u) → unfinished h i t c ≡ unfinished h i u c
unfinished_same h i t u zero same = refl
unfinished_same h i t u (suc c) same =
    ap (λ z. cond z (unfinished h i t c) (suc (unfinished h i t c))) (same c (omega arith))
    ∙ ap (λ z. cond (is_ended h (i ++ c ∷ []) u) z (suc z)) (unfinished_same h i t u c (λ j lt. same j (omega (arith, lt))))

unfinished_less : {A : Type 0} (h : Graph) (i : List ℕ) (t u : Table A) (c j : ℕ) → j < c → is_ended h (i ++ j ∷ []) t ≡ false
    → is_ended h (i ++ j ∷ []) u ≡ true
    → ((q : ℕ) → q < c → nat_eq q j ≡ false → is_ended h (i ++ q ∷ []) t ≡ is_ended h (i ++ q ∷ []) u)
    → unfinished h i t c ≡ suc (unfinished h i u c)
unfinished_less h i t u zero j lt before after others = absurd (omega (arith, lt))
unfinished_less h i t u (suc c) j lt before after others =
    ⊎_elim
    (λ same. let is = eqb-true j c same in
    unless (is_ended h (i ++ c ∷ []) t) _ _ (ap (λ x. is_ended h (i ++ x ∷ []) t) (sym is) ∙ before)
    ∙ ap suc (unfinished_same h i t u c (λ q lq. others q (omega (arith, lq)) (not_true (nat_eq q j)
    (λ z. let e = eqb-true q j z in omega (arith, e, is, lq)))))
    ∙ ap suc (sym (when (is_ended h (i ++ c ∷ []) u) _ _ (ap (λ x. is_ended h (i ++ x ∷ []) u) (sym is) ∙ after))))
    (λ other. let ne = eqb-false j c other in
    let rest = unfinished_less h i t u c j (omega (arith, lt, ne)) before after (λ q lq. others q (omega (arith, lq))) in
    ap (λ z. cond z (unfinished h i t c) (suc (unfinished h i t c)))
    (others c (omega arith) (not_true (nat_eq c j) (λ z. let e = eqb-true c j z in omega (arith, e, ne))))
    ∙ ap (λ z. cond (is_ended h (i ++ c ∷ []) u) z (suc z)) rest
    ∙ both (is_ended h (i ++ c ∷ []) u) (unfinished h i u c))
    (two (nat_eq j c))
  where
    both : (z : Bool) (c : ℕ) → cond z (suc c) (suc (suc c)) ≡ suc (cond z c (suc c))
    both true c = refl
    both false c = refl

-- a graph where nothing has a row has ended exactly where it has no action
empty_ended : {A : Type 0} (h : Graph) (i : List ℕ) (t : Table A) → ((q : ℕ) → has_own h q ≡ true → t (address q i) ≡ None)
    → is_ended h i t ≡ nat_eq (size h) 0
empty_ended done i t none = refl
empty_ended (add n after kind rest) i t none =
    ap (λ o. has_ended o && is_ended rest i t) (none n (or_first (nat_eq n n) (has_own rest n) (same_self n)))
    ∙ sym (not_true (nat_eq (suc (size rest)) 0) (λ z. let e = eqb-true (suc (size rest)) 0 z in omega (arith, e)))

ends_same : {A : Type 0} (h : Graph) (i : List ℕ) (t u : Table A)
    → ((q : ℕ) → has_own h q ≡ true → t (address q i) ≡ u (address q i)) → is_ended h i t ≡ is_ended h i u
ends_same done i t u same = refl
ends_same (add n after kind rest) i t u same =
    ap (λ o. has_ended o && is_ended rest i t) (same n (or_first (nat_eq n n) (has_own rest n) (same_self n)))
    ∙ ap (λ c. has_ended (u (address n i)) && c) (ends_same rest i t u (λ q h. same q (or_second (nat_eq n q) (has_own rest q) h)))

-- indexes with one more
last_same : (i : List ℕ) (j q : ℕ) → same_at (i ++ j ∷ []) (i ++ q ∷ []) ≡ true → nat_eq j q ≡ true
last_same [] j q e = (and_in (nat_eq j q) true e).0
last_same (a ∷ i) j q e = last_same i j q (and_in (nat_eq a a) (same_at (i ++ j ∷ []) (i ++ q ∷ [])) e).1

module _ {Row Begun Decision Verdict : Type 0} (m : Source Row Begun Decision Verdict) (d : Graph) (so : Sound m (SeenIn d) d 0)
    (f : Table Row) (sol : Obeys m d f) (closed : IsClosed m d so f sol) (out : SpecialOut m d so f sol)
    (s : State Row Begun Decision Verdict) (e : Event) (s' : State Row Begun Decision Verdict) (k : Keeps m d so f sol s)
    (b : Busy m d so f sol s) (r : Rooted m d so f sol s) (st : Step d m s e s') where
  abbrev St : Type 0
  St = State Row Begun Decision Verdict

  abbrev Op : Type 0
  Op = Opening Decision Verdict

  abbrev pub p : Address
  p = place_of e

  -- an open container was open before with as many iterations, or with one less, or opened
  abbrev WasJust : ℕ → List ℕ → Op → Type 0
  WasJust c j v =
      ((u : Op) × (s.opens (address c j) ≡ Some u) × ((v.next ≡ u.next) ⊎ ((v.next ≡ suc u.next) × (e ≡ Begin c j)))
      × ((e ≡ Begin c j) → v.next ≡ suc u.next))
      ⊎ ((v.next ≡ 0) × (e ≡ Open c j))

  abbrev begins? : Event → Bool
  begins? (Begin n l) = true
  begins? (Start n l) = false
  begins? (Try n l) = false
  begins? (End n l) = false
  begins? (Skip n l) = false
  begins? (Open n l) = false
  begins? (Test n l) = false
  begins? (Close n l) = false

  was_just : (c : ℕ) (j : List ℕ) (v : Op) → s'.opens (address c j) ≡ Some v → WasJust c j v
  was_just c j v h = go e refl st
    where
      before : (x : Event) → e ≡ x → begins? x ≡ false → s'.opens (address c j) ≡ s.opens (address c j) → WasJust c j v
      before x ex nb is =
          inl (v, sym is ∙ h, inl refl, λ eb. absurd (true≢false (sym (ap begins? (sym ex ∙ eb)) ∙ nb)))

      the_same : (a q : Op) → Some a ≡ Some q → a ≡ q
      the_same a q z = cc

      at_own : (x : Event) → e ≡ x → (n : ℕ) (l : List ℕ) (z : Option Op) → s'.opens ≡ opened n l z s.opens
          → ((is_own n l (address c j) ≡ false) → (e ≡ Begin c j) → ⊥)
          → ((v0 : Op) → z ≡ Some v0 → v0 ≡ v → (address n l ≡ address c j) → WasJust c j v) → WasJust c j v
      at_own x ex n l z is apart own =
          ⊎_elim
          (λ t. let here' = sym (ap (λ o. o (address c j)) is ∙ when (is_own n l (address c j)) z _ t) ∙ h in
          own v here' refl (own_is n l (address c j) t))
          (λ t. inl (
            v,
            sym (ap (λ o. o (address c j)) is ∙ unless (is_own n l (address c j)) z _ t)
                ∙ h,
            inl refl,
            λ eb. absurd (apart t eb),
          ))
          (two (is_own n l (address c j)))

      no_begin : (x : Event) → e ≡ x → begins? x ≡ false → (e ≡ Begin c j) → ⊥
      no_begin x ex nb eb = true≢false (sym (ap begins? (sym ex ∙ eb)) ∙ nb)

      go : (x : Event) → e ≡ x → Step d m s x s' → WasJust c j v
      go (Start n l) ex (after, de, pass, to) = before (Start n l) ex refl (ap (λ (z : St). z.opens (address c j)) to)
      go (Try n l) ex (w, q, lt, to) = before (Try n l) ex refl (ap (λ (z : St). z.opens (address c j)) to)
      go (End n l) ex (w, q, all, to) = before (End n l) ex refl (ap (λ (z : St). z.opens (address c j)) to)
      go (Skip n l) ex (after, kind, de, fails, to) = before (Skip n l) ex refl (ap (λ (z : St). z.opens (address c j)) to)
      go (Open n l) ex (after, kind, ct, de, pass, to) =
          at_own (Open n l) ex n l _ (ap (λ (z : St). z.opens) to) (λ u eb. no_begin (Open n l) ex refl eb)
          (λ v0 ev same ad. inr (
            ap (λ (z : Op). z.next) (sym (the_same _ v0 ev ∙ same)),
            ex ∙ ap (λ (z : Address). Open z.name z.at) ad,
          ))
      go (Begin n l) ex (after, kind, w, th, q, may, to) =
          at_own (Begin n l) ex n l _ (ap (λ (z : St). z.opens) to)
          (λ u eb. true≢false (sym (own_self n l) ∙ own_false u eb))
          (λ v0 ev same ad. let is = the_same _ v0 ev ∙ same in
          let nx : v.next ≡ suc w.next = ap (λ (z : Op). z.next) (sym is) in inl (
            w,
            ap s.opens (sym ad) ∙ q,
            inr (nx, ex ∙ ap (λ (z : Address). Begin z.name z.at) ad),
            λ eb. nx,
          ))
        where
          own_false : (is_own n l (address c j) ≡ false) → (e ≡ Begin c j) → is_own n l (address n l) ≡ false
          own_false u eb = ap (λ (z : Address). is_own n l z) (ap place_of (sym ex ∙ eb)) ∙ u
      go (Test n l) ex (after, kind, w, y, th, q, may, to) =
          at_own (Test n l) ex n l _ (ap (λ (z : St). z.opens) to) (λ u eb. no_begin (Test n l) ex refl eb)
          (λ v0 ev same ad. let is = the_same _ v0 ev ∙ same in inl (
            w,
            ap s.opens (sym ad) ∙ q,
            inl (ap (λ (z : Op). z.next) (sym is)),
            λ eb. absurd (no_begin (Test n l) ex refl eb),
          ))
      go (Close n l) ex (after, kind, w, th, q, may, to) =
          at_own (Close n l) ex n l None (ap (λ (z : St). z.opens) to) (λ u eb. no_begin (Close n l) ex refl eb)
          (λ v0 ev same ad. absurd (none-some v0 ev))

  module _ (lacks : Table ℕ) (old new : Address → ℕ)
      (lacked : (n : ℕ) (i : List ℕ) (after : List Need) (kind : Kind) (w : Op) (h : Graph) (j : List ℕ) → IsThere d m s' n i after kind
      → s'.opens (address n i) ≡ Some w → IsInner m.taken w i kind h j → lacks (address n j) ≡ nonzero (lacking h j s'.rows))
      (was' : AreLeft d m s old) (now : AreLeftAfter d m s e s' lacks old new) (n : ℕ) (i : List ℕ) (after : List Need) (pace : Pace)
      (h : Graph) (w : Op) (th : IsThere d m s' n i after (Foreach pace h)) (ew : s'.opens (address n i) ≡ Some w)
      (th0 : IsThere d m s n i after (Foreach pace h)) (kn : kind_of d n ≡ Some (Foreach pace h)) (u : Op)
      (eu : s.opens (address n i) ≡ Some u) where
    own_at : (j : ℕ) → j < u.next → (q : ℕ) → has_own h q ≡ true
        → (a : List Need) × (c : Kind) × IsThere d m s q (i ++ j ∷ []) a c
    own_at j lt q own =
        let z = own_there m d so f sol closed out s e s' k b r st h q own in
        (z.0, z.1, record { graph = h; is_open = turn j th0.is_open th0.is_in eu lt; is_in = z.2 })

    -- in an iteration that the event leaves as it is
    still : (j : ℕ) → j < u.next → (places e && (has_own h p.name && same_at p.at (i ++ j ∷ []))) ≡ false
        → is_ended h (i ++ j ∷ []) s.rows ≡ is_ended h (i ++ j ∷ []) s'.rows
    still j lt no_place =
        ends_same h (i ++ j ∷ []) s.rows s'.rows (λ q own.
        let it = own_at j lt q own in
        sym (other_same m d so f sol closed out s e s' k b r st q (i ++ j ∷ []) it.0 it.1 it.2
        (not_true (places e && is_own p.name p.at (address q (i ++ j ∷ [])))
        (λ t. let x = and_in (places e) (is_own p.name p.at (address q (i ++ j ∷ []))) t in
        let is = own_is p.name p.at (address q (i ++ j ∷ [])) x.1 in
        true≢false (sym (and_of (places e) (has_own h p.name && same_at p.at (i ++ j ∷ [])) x.0
        (and_of (has_own h p.name) (same_at p.at (i ++ j ∷ []))
        (subst (λ (z : Address). has_own h z.name ≡ true) (sym is) own)
        (subst (λ (z : Address). same_at z.at (i ++ j ∷ []) ≡ true) (sym is) (same_self_at (i ++ j ∷ []))))) ∙ no_place)))))

    just : w.next ≡ u.next → ((e ≡ Begin n i) → ⊥) → new (address n i) ≡ unfinished h i s'.rows w.next
    just nx nb =
        ⊎_elim found' none' (find_turn u.next (λ j. places e && (has_own h p.name && same_at p.at (i ++ j ∷ []))))
        ∙ ap (unfinished h i s'.rows) (sym nx)
      where
        none' : ((j : ℕ) → j < u.next → (places e && (has_own h p.name && same_at p.at (i ++ j ∷ []))) ≡ false)
            → new (address n i) ≡ unfinished h i s'.rows u.next
        none' none =
            now.others n i pace h u kn eu nb none ∙ was' n i after pace h u th0 eu
            ∙ unfinished_same h i s.rows s'.rows u.next (λ j lt. still j lt (none j lt))

        found' : ((j : ℕ) × (j < u.next) × ((places e && (has_own h p.name && same_at p.at (i ++ j ∷ []))) ≡ true))
            → new (address n i) ≡ unfinished h i s'.rows u.next
        found' (j, lt, t) =
            now.placed n i pace h u j kn eu lt t
            ∙ ap (λ c. cond (has_ended (lacks (address n (i ++ j ∷ [])))) c (c - 1)) (was' n i after pace h u th0 eu)
            ∙ ap (λ o. cond (has_ended o) (unfinished h i s.rows u.next) (unfinished h i s.rows u.next - 1))
            (lacked n i after (Foreach pace h) w h (i ++ j ∷ []) th ew (in_turn j (omega (arith, lt, nx))))
            ∙ at_count (lacking h (i ++ j ∷ []) s'.rows) refl
          where
            pl : (places e ≡ true) × ((has_own h p.name && same_at p.at (i ++ j ∷ [])) ≡ true)
            pl = and_in (places e) (has_own h p.name && same_at p.at (i ++ j ∷ [])) t

            own : (has_own h p.name ≡ true) × (same_at p.at (i ++ j ∷ []) ≡ true)
            own = and_in (has_own h p.name) (same_at p.at (i ++ j ∷ [])) pl.1

            at : p.at ≡ i ++ j ∷ []
            at = same_at_is p.at (i ++ j ∷ []) own.1

            open_before : is_ended h (i ++ j ∷ []) s.rows ≡ false
            open_before =
                not_true (is_ended h (i ++ j ∷ []) s.rows) (λ over.
                let it = own_there m d so f sol closed out s e s' k b r st h p.name own.0 in
                true≢false (sym (ended_row m d so f sol closed out s e s' k b r st h (i ++ j ∷ []) p.name it.0 it.1 it.2 over)
                ∙ ap (λ x. has_ended (s.rows (address p.name x))) (sym at)
                ∙ ap has_ended (no_row_yet m d so f sol closed out s e s' k b r st pl.0)))

            others' : (q : ℕ) → q < u.next → nat_eq q j ≡ false → is_ended h (i ++ q ∷ []) s.rows ≡ is_ended h (i ++ q ∷ []) s'.rows
            others' q lq ne =
                still q lq (not_true (places e && (has_own h p.name && same_at p.at (i ++ q ∷ [])))
                (λ z. let y = (and_in (has_own h p.name) (same_at p.at (i ++ q ∷ []))
                (and_in (places e) (has_own h p.name && same_at p.at (i ++ q ∷ [])) z).1).1 in
                let jq = eqb-true j q (last_same i j q (ap (λ x. same_at x (i ++ q ∷ [])) (sym at) ∙ y)) in
                true≢false (sym (ap (λ x. nat_eq x j) (sym jq) ∙ same_self j) ∙ ne)))

            at_count : (c : ℕ) → lacking h (i ++ j ∷ []) s'.rows ≡ c
                → cond (has_ended (nonzero c)) (unfinished h i s.rows u.next) (unfinished h i s.rows u.next - 1)
                ≡ unfinished h i s'.rows u.next
            at_count zero is =
                let over = (counts_are.lacks_none h (i ++ j ∷ []) s'.rows).0 is in
                let fewer = unfinished_less h i s.rows s'.rows u.next j lt open_before over others' in omega (arith, fewer)
            at_count (suc c) is =
                let going = not_true (is_ended h (i ++ j ∷ []) s'.rows) (λ over.
                let z = (counts_are.lacks_none h (i ++ j ∷ []) s'.rows).1 over in omega (arith, z, is)) in
                unfinished_same h i s.rows s'.rows u.next (λ q lq.
                ⊎_elim (λ same. let qj = eqb-true q j same in
                subst (λ x. is_ended h (i ++ x ∷ []) s.rows ≡ is_ended h (i ++ x ∷ []) s'.rows) (sym qj) (open_before ∙ sym going))
                (λ ne. others' q lq ne) (two (nat_eq q j)))

    begun : w.next ≡ suc u.next → (eb : e ≡ Begin n i) → new (address n i) ≡ unfinished h i s'.rows w.next
    begun nx eb =
        now.begun n i pace h eb kn
        ∙ ap (λ c. cond (nat_eq (size h) 0) c (suc c)) (was' n i after pace h u th0 eu
        ∙ unfinished_same h i s.rows s'.rows u.next (λ j lt. still j lt
        (ap (λ y. places y && (has_own h (place_of y).name && same_at (place_of y).at (i ++ j ∷ []))) eb)))
        ∙ ap (λ z. cond z (unfinished h i s'.rows u.next) (suc (unfinished h i s'.rows u.next)))
        (sym (empty_ended h (i ++ u.next ∷ []) s'.rows (λ q own.
        new_empty m d so f sol closed out s e s' k b r st h (i ++ u.next ∷ []) (record {
          container = n;
          at = i;
          after = after;
          kind = Foreach pace h;
          opening = w;
          stood = th0;
          is_open = ew;
          inner = in_turn u.next (omega (arith, nx));
          how = inr (u, eb, eu, refl);
        }) q own)))
        ∙ ap (unfinished h i s'.rows) (sym nx)

  pub left_kept : (lacks : Table ℕ) (old new : Address → ℕ)
      → ((n : ℕ) (i : List ℕ) (after : List Need) (kind : Kind) (w : Op) (h : Graph) (j : List ℕ) → IsThere d m s' n i after kind
      → s'.opens (address n i) ≡ Some w → IsInner m.taken w i kind h j → lacks (address n j) ≡ nonzero (lacking h j s'.rows))
      → AreLeft d m s old → AreLeftAfter d m s e s' lacks old new → AreLeft d m s' new
  left_kept lacks old new lacked was' now n i after pace h w th ew =
      ⊎_elim stayed (λ z. absurd (not_new m d so f sol closed out s e s' k b r st th.graph i z n after (Foreach pace h) th.is_in w ew))
      (opened_or_new m d so f sol closed out s e s' k b r st th.graph i th.is_open)
    where
      stayed : IsOpen m.taken d s.opens th.graph i → new (address n i) ≡ unfinished h i s'.rows w.next
      stayed og = ⊎_elim opened_before (λ z. now.opened n i z.1 ∙ sym (ap (λ c. unfinished h i s'.rows c) z.0)) (was_just n i w ew)
        where
          th0 : IsThere d m s n i after (Foreach pace h)
          th0 = record { graph = th.graph; is_open = og; is_in = th.is_in }

          kn : kind_of d n ≡ Some (Foreach pace h)
          kn = kind_at n i after (Foreach pace h) th0
            where
              kind_at : (n : ℕ) (i : List ℕ) (after : List Need) (kind : Kind) → IsThere d m s n i after kind → kind_of d n ≡ Some kind
              kind_at n i after kind th = (kind_there m d so f sol s.opens th.graph i n after kind th.is_open th.is_in).0

          opened_before : ((u : Op) × (s.opens (address n i) ≡ Some u) × ((w.next ≡ u.next) ⊎ ((w.next ≡ suc u.next) × (e ≡ Begin n i)))
              × ((e ≡ Begin n i) → w.next ≡ suc u.next)) → new (address n i) ≡ unfinished h i s'.rows w.next
          opened_before (u, eu, inl nx, more) = just lacks old new lacked was' now n i after pace h w th ew th0 kn u eu nx
              (λ eb. let z = more eb in omega (arith, z, nx))
          opened_before (u, eu, inr (nx, eb), more) = begun lacks old new lacked was' now n i after pace h w th ew th0 kn u eu nx eb

module _ {Row Begun Decision Verdict : Type 0} (d : Graph) (depth : ℕ → ℕ) (m : Source Row Begun Decision Verdict)
    (s : State Row Begun Decision Verdict) (reached : IsReached d depth m s) where
  -- THE LAW, of each reached state
  pub left_is_kept : (e : Event) (s' : State Row Begun Decision Verdict) → Step d m s e s' → (waits lacks : Table ℕ)
      (left left' : Address → ℕ) → AreCounts d m s' waits lacks → AreLeft d m s left → AreLeftAfter d m s e s' lacks left left'
      → AreLeft d m s' left'
  left_is_kept e s' st waits lacks left left' c was' now =
      let k = known d depth m s reached in
      left_kept m d k.so (meaning m depth d) k.sol k.closed k.out s e s' k.keeps k.busy k.rooted st lacks left left' c.lacked was' now
