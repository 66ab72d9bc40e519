-- Each event makes what is placed, begun and tried worth more; so there are few events.
use Rattle.std.proofs.Common.{◌≡◌, ℕ, zero, suc, ◌+◌, ◌*◌, ◌≤◌, true, false, ◌&&◌, ◌||◌, List, [], ◌∷◌, ◌++◌, length, Option, Some, None, inl, inr, ⊎_elim, refl, sym, ap, ◌∙◌, subst, arith, nat_eq}
use Rattle.wf_layers.specs.Definition.{Need, Kind, Leaf, Scope, Choice, Foreach, Until, Graph, shows, kind_of}
use Rattle.wf_layers.specs.Address.{Address, address, Table, same_at, is_own, is_in, SeenIn}
use Rattle.wf_layers.specs.Source.{Source, Sound, leaf}
use Rattle.wf_layers.specs.Meaning.{meaning, skip}
use Rattle.wf_layers.specs.Rule.{look_in, Obeys}
use Rattle.wf_layers.specs.Bound.{TellsTurns, Costs}
use Rattle.wf_layers.specs.Listed.{Among, Lists, sum_of}
use Rattle.wf_layers.specs.Machine.{Running, Opening, State, Event, Start, Try, End, Skip, Open, Begin, Test, Close, In, IsOpen, place_of, fresh, or_else, place, one, without, opened, passed_over, closing, MayBegin, MayTest, MayClose, IsThere, Step, Run}
use Rattle.wf_layers.specs.Laws.{IsInstance, EventsOfRunsAreFew}
use Rattle.wf_layers.proofs.Basics.{two, and_of, same_self, same_self_at, when, unless, held_in, own_in}
use Rattle.wf_layers.proofs.Tables.{own_is, own_self}
use Rattle.wf_layers.proofs.Others.{passed_in, skipped_in}
use Rattle.wf_layers.proofs.Open.{open_sub, placed_in, kind_there, fact_of, obey_in, follows}
use Rattle.wf_layers.proofs.Bound.{begun_most}
use Rattle.wf_layers.proofs.Keeps.{Keeps, IsClosed, SpecialOut}
use Rattle.wf_layers.proofs.Events.{step_keeps}
use Rattle.wf_layers.proofs.Busy.{Busy, step_busy}
use Rattle.wf_layers.proofs.Rooted.{Rooted, NoneAt, none_in, step_rooted, placed_one}
use Rattle.wf_layers.proofs.Progress.{sol as sol_of, closed_is, nothing_special, kept_state}
use Rattle.wf_layers.proofs.Facts.{busy_state, rooted_state}

-- SUMS

module _ {E : Type 0} (h k : E → ℕ) (more : (e : E) → h e ≤ k e) where
  sum_grows : (xs : List E) → sum_of h xs ≤ sum_of k xs
  sum_grows [] = omega arith
  sum_grows (x ∷ xs) = let r = sum_grows xs in let m = more x in omega (arith, r, m)

  -- more, where one of the terms grows
  sum_more : (xs : List E) (y : E) → Among xs y → suc (h y) ≤ k y → suc (sum_of h xs) ≤ sum_of k xs
  sum_more [] y among lt = absurd among
  sum_more (x ∷ xs) y (inl is) lt = let r = sum_grows xs in let l = subst (λ e. suc (h e) ≤ k e) (sym is) lt in omega (arith, r, l)
  sum_more (x ∷ xs) y (inr among) lt = let r = sum_more xs y among lt in let m = more x in omega (arith, r, m)

sum_append : {E : Type 0} (h : E → ℕ) (xs ys : List E) → sum_of h (xs ++ ys) ≡ sum_of h xs + sum_of h ys
sum_append h [] ys = omega arith
sum_append h (x ∷ xs) ys = let r = sum_append h xs ys in omega (arith, r)

pub among_front : {E : Type 0} (xs ys : List E) (e : E) → Among xs e → Among (xs ++ ys) e
among_front [] ys e a = absurd a
among_front (x ∷ xs) ys e (inl is) = inl is
among_front (x ∷ xs) ys e (inr a) = inr (among_front xs ys e a)

pub among_back : {E : Type 0} (xs ys : List E) (e : E) → Among ys e → Among (xs ++ ys) e
among_back [] ys e a = a
among_back (x ∷ xs) ys e a = inr (among_back xs ys e a)

abbrev pub spots : {E : Type 0} → (E → Address) → List E → List Address
spots at [] = []
spots at (x ∷ xs) = at x ∷ spots at xs

pub among_spots : {E : Type 0} (at : E → Address) (xs : List E) (e : E) → Among xs e → Among (spots at xs) (at e)
among_spots at [] e a = absurd a
among_spots at (x ∷ xs) e (inl is) = inl (ap at is)
among_spots at (x ∷ xs) e (inr a) = inr (among_spots at xs e a)

-- the entries cost at least 32 times what their addresses are worth
spots_cost : {E : Type 0} (at : E → Address) (h : Address → ℕ) (cost : E → ℕ) (xs : List E)
    → ((e : E) → Among xs e → 32 * h (at e) ≤ cost e) → 32 * sum_of h (spots at xs) ≤ sum_of cost xs
spots_cost at h cost [] le = omega arith
spots_cost at h cost (x ∷ xs) le =
    let r = spots_cost at h cost xs (λ e a. le e (inr a)) in let l = le x (inl refl) in omega (arith, r, l)

-- WHAT AN ADDRESS IS WORTH

-- the tests so far of an open loop
abbrev tested : {A : Type 0} → ℕ → Option A → ℕ
tested zero t = 0
tested (suc j) None = j
tested (suc j) (Some v) = suc j

module _ {Row Begun Decision Verdict : Type 0} where
  abbrev worth : Option Kind → (Row → ℕ) → Option Row → Option (Running Begun) → Option (Opening Decision Verdict) → ℕ
  worth k turns (Some r) w o = 2 * suc (turns r)
  worth k turns None (Some w) o = suc w.tries
  worth k turns None None None = 0
  worth None turns None None (Some o) = 1
  worth (Some Leaf) turns None None (Some o) = 1
  worth (Some (Scope g)) turns None None (Some o) = 1
  worth (Some (Choice bs)) turns None None (Some o) = 1
  worth (Some (Foreach pace g)) turns None None (Some o) = suc (o.next + tested o.next o.test)
  worth (Some (Until most g)) turns None None (Some o) = suc (o.next + tested o.next o.test)

module _ {Row Begun Decision Verdict : Type 0} (m : Source Row Begun Decision Verdict) (d : Graph) (so : Sound m (SeenIn d) d 0)
    (f : Table Row) (sol : Obeys m d f) (turns : Row → ℕ) (tells : TellsTurns d m f turns) where
  abbrev St : Type 0
  St = State Row Begun Decision Verdict

  abbrev own : St → Address → ℕ
  own s x = worth (kind_of d x.name) turns (s.rows x) (s.running x) (s.opens x)

  own_at : (s : St) (x : Address) (k : Option Kind) (a : Option Row) (b : Option (Running Begun)) (c : Option (Opening Decision Verdict))
      → kind_of d x.name ≡ k → s.rows x ≡ a → s.running x ≡ b → s.opens x ≡ c → own s x ≡ worth k turns a b c
  own_at s x k a b c ek ea eb ec =
      ap (λ z. worth z turns (s.rows x) (s.running x) (s.opens x)) ek ∙ ap (λ z. worth k turns z (s.running x) (s.opens x)) ea
      ∙ ap (λ z. worth k turns a z (s.opens x)) eb ∙ ap (λ z. worth k turns a b z) ec

  -- an event makes its own address worth more, and no other less
  abbrev Grows : St → Event → St → Type 0
  Grows s e s' = ((x : Address) → own s x ≤ own s' x) × (suc (own s (place_of e)) ≤ own s' (place_of e))

  -- from what is so at the address of an action and at all others
  grows : (n : ℕ) (i : List ℕ) (s s' : St) → suc (own s (address n i)) ≤ own s' (address n i)
      → ((x : Address) → is_own n i x ≡ false → own s x ≤ own s' x)
      → ((x : Address) → own s x ≤ own s' x) × (suc (own s (address n i)) ≤ own s' (address n i))
  grows n i s s' here others = (
    λ x. ⊎_elim (λ t. subst (λ z. own s z ≤ own s' z) (own_is n i x t) (omega (arith, here))) (λ u. others x u) (two (is_own n i x)),
    here,
  )

  same_else : (s s' : St) (x : Address) → s.rows x ≡ s'.rows x → s.running x ≡ s'.running x → s.opens x ≡ s'.opens x → own s x ≤ own s' x
  same_else s s' x ea eb ec =
      let e = own_at s x (kind_of d x.name) (s'.rows x) (s'.running x) (s'.opens x) refl ea eb ec in omega (arith, e)

  one_else : {A : Type 0} (n : ℕ) (i : List ℕ) (v : A) (t : Table A) (x : Address) → is_own n i x ≡ false → t x ≡ place (one n i v) t x
  one_else n i v t x u = sym (ap (λ o. or_else o (t x)) (unless (is_own n i x) (Some v) None u))

  -- where new rows stand only where nothing is
  new_rows : (s : St) (new : Table Row) (n : ℕ) (kind : Kind) (i : List ℕ)
      → ((y : Address) (r : Row) → new y ≡ Some r → is_in n kind i y ≡ true)
      → ((y : Address) → is_in n kind i y ≡ true → NoneAt m d so f sol s y) → (o : Table (Opening Decision Verdict)) → (x : Address)
      → s.opens x ≡ o x
      → own s x ≤ own (record { rows = place new s.rows; running = s.running; opens = o }) x
  new_rows s new n kind i inner none o x eo = go (new x) refl
    where
      go : (q : Option Row) → new x ≡ q → own s x ≤ own (record { rows = place new s.rows; running = s.running; opens = o }) x
      go None e =
          same_else s (record { rows = place new s.rows; running = s.running; opens = o }) x
          (sym (ap (λ z. or_else z (s.rows x)) e)) refl eo
      go (Some r) e =
          let z = none x (inner x r e) in
          let h : own s x ≡ 0 = own_at s x (kind_of d x.name) None None None refl z.0 z.1 z.2 ∙ nothing (kind_of d x.name) in
          omega (arith, h)
        where
          nothing : (k : Option Kind) → worth {Begun = Begun} {Decision = Decision} {Verdict = Verdict} k turns None None None ≡ 0
          nothing k = refl

  kind_is : (s : St) (n : ℕ) (i : List ℕ) (after : List Need) (kind : Kind) → IsThere d m s n i after kind → kind_of d n ≡ Some kind
  kind_is s n i after kind th = (kind_there m d so f sol s.opens th.graph i n after kind th.is_open th.is_in).0

  -- the row of a leaf that ends tells its attempts
  leaf_tells : (s : St) → Keeps m d so f sol s → (n : ℕ) (i : List ℕ) (w : Running Begun) → s.running (address n i) ≡ Some w
      → m.tries (address n i) w.begun ≤ turns (m.finish (address n i) w.begun s.rows)
  leaf_tells s k n i w e =
      let x = address n i in
      let h = k.held x w e in
      let here = h.gives s.rows (λ y see. k.run_behind x w e y see) in
      let meant = h.gives f (λ y see. refl) ∙ ap (λ b. Some (m.finish x b f)) h.as_begun in
      let same : m.finish x w.begun s.rows ≡ leaf m x f = the_same (m.finish x w.begun s.rows) (leaf m x f) (sym here ∙ meant) in
      let t = tells.attempts x h.is_leaf in
      let b = ap (λ z. m.tries x z) h.as_begun in let r = ap turns same in omega (arith, t, b, r)
    where
      the_same : (a b : Row) → Some a ≡ Some b → a ≡ b
      the_same a b e = cc

  -- and that of a loop its iterations
  loop_row : (s : St) → Keeps m d so f sol s → (g : Graph) (n : ℕ) (i : List ℕ) (after : List Need) (kind : Kind)
      (w : Opening Decision Verdict)
      → IsOpen m.taken d s.opens g i → In g n after kind → s.opens (address n i) ≡ Some w
      → f (address n i) ≡ look_in m kind n i f (address n i)
  loop_row s k g n i after kind w og st e =
      let pl = placed_in m d so f sol (length i) g n after kind (open_sub m d so f sol s.opens g i og) st in
      let fact = fact_of m d so f sol s.rows s.opens k.facts g i n after kind w og st e in
      obey_in m d so f sol g i n after kind pl (follows m d so f sol s.rows s.opens k.facts g i og) fact.0 (address n i) (own_in n kind i)

  tested_most : (next : ℕ) (t : Option Verdict) → tested next t ≤ next
  tested_most zero t = omega arith
  tested_most (suc j) None = omega arith
  tested_most (suc j) (Some v) = omega arith

  closed_tells : (s : St) → Keeps m d so f sol s → (n : ℕ) (i : List ℕ) (after : List Need) (kind : Kind) (w : Opening Decision Verdict)
      → IsThere d m s n i after kind → s.opens (address n i) ≡ Some w → MayClose m kind i w s.rows
      → f (address n i) ≡ Some (closing m kind (address n i) w s.rows)
      → suc (worth {Begun = Begun} {Verdict = Verdict} (Some kind) turns None None (Some w)) ≤ 2 * suc
      (turns (closing m kind (address n i) w s.rows))
  closed_tells s k n i after Leaf w th e may is = absurd may
  closed_tells s k n i after (Scope g) w th e may is = omega arith
  closed_tells s k n i after (Choice bs) w th e may is = omega arith
  closed_tells s k n i after (Foreach pace g) w th e may is =
      let x = address n i in
      let fact = (fact_of m d so f sol s.rows s.opens k.facts th.graph i n after (Foreach pace g) w th.is_open th.is_in e).1 in
      let rule = loop_row s k th.graph n i after (Foreach pace g) w th.is_open th.is_in e ∙ when (is_own n i x) _ _ (own_self n i) in
      let same = ap turns (the_same (closing m (Foreach pace g) x w s.rows) (m.close x (m.decide x f) 0 None f) (sym is ∙ rule)) in
      let t = tells.items x pace g (kind_is s n i after (Foreach pace g) th) in
      let num = ap m.items fact.0 in let z = may.0 in let y = tested_most w.next w.test in omega (arith, t, same, num, z, y)
    where
      the_same : (a b : Row) → Some a ≡ Some b → a ≡ b
      the_same a b e = cc
  closed_tells s k n i after (Until most g) w th e may is =
      let x = address n i in
      let rule = loop_row s k th.graph n i after (Until most g) w th.is_open th.is_in e ∙ when (is_own n i x) _ _ (own_self n i) in
      let same = ap turns (the_same (closing m (Until most g) x w s.rows) _ (sym is ∙ rule)) in
      let t = tells.rounds x most g (kind_is s n i after (Until most g) th) in
      let fact = (fact_of m d so f sol s.rows s.opens k.facts th.graph i n after (Until most g) w th.is_open th.is_in e).1 in
      let le = begun_most most w.next (λ j. m.ends (m.test x j f)) fact.0 (λ j lt. (fact.1 j lt).0) in
      let y = tested_most w.next w.test in omega (arith, t, same, le, y)
    where
      the_same : (a b : Row) → Some a ≡ Some b → a ≡ b
      the_same a b e = cc

  -- EACH EVENT

  module _ (closed : IsClosed m d so f sol) (out : SpecialOut m d so f sol) where
    loop_grows : (s : St) → Busy m d so f sol s → (n : ℕ) (i : List ℕ) (after : List Need) (kind : Kind) (w v : Opening Decision Verdict)
        → IsThere d m s n i after kind → s.opens (address n i) ≡ Some w → s.running (address n i) ≡ None
        → suc (worth {Begun = Begun} {Verdict = Verdict} (Some kind) turns None None (Some w)) ≤ worth {Begun = Begun} {Verdict = Verdict}
        (Some kind) turns None None (Some v)
        → Grows s (Begin n i) (record { rows = s.rows; running = s.running; opens = opened n i (Some v) s.opens })
    loop_grows s b n i after kind w v th e nr le =
        let x = address n i in let s' : St = record { rows = s.rows; running = s.running; opens = opened n i (Some v) s.opens } in
        let kn = kind_is s n i after kind th in let no = b.no_row x (inr (w, e)) in
        let was = own_at s x (Some kind) None None (Some w) kn no nr e in
        let is = own_at s' x (Some kind) None None (Some v) kn no nr (when (is_own n i x) (Some v) (s.opens x) (own_self n i)) in
        grows n i s s' (omega (arith, le, was, is))
        (λ y u. same_else s s' y refl refl (sym (unless (is_own n i y) (Some v) (s.opens y) u)))

    begin_worth : (s : St) → Keeps m d so f sol s → (n : ℕ) (i : List ℕ) (after : List Need) (kind : Kind) (w : Opening Decision Verdict)
        → IsThere d m s n i after kind → s.opens (address n i) ≡ Some w → MayBegin m kind i w s.rows
        → suc (worth {Begun = Begun} {Verdict = Verdict} (Some kind) turns None None (Some w))
        ≤ worth {Begun = Begun} {Verdict = Verdict} (Some kind) turns None None
        (Some (record { decision = w.decision; next = suc w.next; test = None }))
    begin_worth s k n i after Leaf w th e may = absurd may
    begin_worth s k n i after (Scope g) w th e may = absurd may
    begin_worth s k n i after (Choice bs) w th e may = absurd may
    begin_worth s k n i after (Foreach pace g) w th e may = let y = tested_most w.next w.test in omega (arith, y)
    begin_worth s k n i after (Until most g) w th e may = let y = tested_most w.next w.test in omega (arith, y)

    test_worth : (s : St) (kind : Kind) (i : List ℕ) (w : Opening Decision Verdict) (j : ℕ) (t : Verdict) → MayTest m kind i w s.rows j
        → suc (worth {Begun = Begun} {Verdict = Verdict} (Some kind) turns None None (Some w))
        ≤ worth {Begun = Begun} {Verdict = Verdict} (Some kind) turns None None
        (Some (record { decision = w.decision; next = w.next; test = Some t }))
    test_worth s Leaf i w j t may = absurd may
    test_worth s (Scope g) i w j t may = absurd may
    test_worth s (Choice bs) i w j t may = absurd may
    test_worth s (Foreach pace g) i w j t may = absurd may
    test_worth s (Until most g) i w j t may =
        let x : tested w.next w.test ≡ j = ap (λ z. tested z w.test) may.0 ∙ ap (λ z. tested (suc j) z) may.1 in
        let y : tested w.next (Some t) ≡ suc j = ap (λ z. tested z (Some t)) may.0 in
        omega (arith, x, y)

    -- an open container is no running leaf
    not_running : (s : St) → Keeps m d so f sol s → (n : ℕ) (i : List ℕ) (w : Opening Decision Verdict) → s.opens (address n i) ≡ Some w
        → s.running (address n i) ≡ None
    not_running s k n i w e = go (s.running (address n i)) refl
      where
        go : (z : Option (Running Begun)) → s.running (address n i) ≡ z → s.running (address n i) ≡ None
        go None h = h
        go (Some v) h = absurd (k.facts n i w Leaf e (k.held (address n i) v h).is_leaf).1

    -- nor the other way round
    not_open : (s : St) → Keeps m d so f sol s → (x : Address) (w : Running Begun) → s.running x ≡ Some w → s.opens x ≡ None
    not_open s k x w e = go (s.opens x) refl
      where
        go : (z : Option (Opening Decision Verdict)) → s.opens x ≡ z → s.opens x ≡ None
        go None h = h
        go (Some v) h = absurd (k.facts x.name x.at v Leaf h (k.held x w e).is_leaf).1

    step_grows : (s : St) (e : Event) (s' : St) → Keeps m d so f sol s → Busy m d so f sol s → Rooted m d so f sol s → Step d m s e s'
        → Grows s e s'
    step_grows s (Start n i) s' k b r (after, de, pass, to) =
        let x = address n i in let v : Running Begun = record { begun = m.start x s.rows; tries = 0 } in
        let new : St = record { rows = s.rows; running = place (one n i v) s.running; opens = s.opens } in
        let kn = kind_is s n i after Leaf de.is_there in
        let was = own_at s x (Some Leaf) None None None kn de.no_row de.not_running de.not_open in
        let is = own_at new x (Some Leaf) None (Some v) None kn de.no_row (placed_one n i v s.running) de.not_open in
        subst (Grows s (Start n i)) (sym to)
        (grows n i s new (omega (arith, was, is)) (λ y u. same_else s new y refl (one_else n i v s.running y u) refl))
    step_grows s (Try n i) s' k b r (w, e, lt, to) =
        let x = address n i in let v : Running Begun = record { begun = w.begun; tries = suc w.tries } in
        let new : St = record { rows = s.rows; running = place (one n i v) s.running; opens = s.opens } in
        let kn = (k.held x w e).is_leaf in let no = b.no_row x (inl (w, e)) in let no' = not_open s k x w e in
        let was = own_at s x (Some Leaf) None (Some w) None kn no e no' in
        let is = own_at new x (Some Leaf) None (Some v) None kn no (placed_one n i v s.running) no' in
        subst (Grows s (Try n i)) (sym to)
        (grows n i s new (omega (arith, was, is)) (λ y u. same_else s new y refl (one_else n i v s.running y u) refl))
    step_grows s (End n i) s' k b r (w, e, all, to) =
        let x = address n i in let row = m.finish x w.begun s.rows in
        let new : St = record { rows = place (one n i row) s.rows; running = without n i s.running; opens = s.opens } in
        let kn = (k.held x w e).is_leaf in let no = b.no_row x (inl (w, e)) in let no' = not_open s k x w e in
        let was = own_at s x (Some Leaf) None (Some w) None kn no e no' in
        let is = own_at new x (Some Leaf) (Some row) None None kn (placed_one n i row s.rows)
        (when (is_own n i x) None (s.running x) (own_self n i)) no' in
        let t = leaf_tells s k n i w e in
        subst (Grows s (End n i)) (sym to)
        (grows n i s new (omega (arith, was, is, t, all))
        (λ y u. same_else s new y (one_else n i row s.rows y u) (sym (unless (is_own n i y) None (s.running y) u)) refl))
    step_grows s (Skip n i) s' k b r (after, kind, de, fails, to) =
        let x = address n i in let new = skip m n kind i in
        let s2 : St = record { rows = place new s.rows; running = s.running; opens = s.opens } in
        let kn = kind_is s n i after kind de.is_there in
        let none = none_in m d so f sol s b r n i after kind de in
        let was = own_at s x (Some kind) None None None kn de.no_row de.not_running de.not_open in
        let there' : place new s.rows x ≡ Some m.skipped =
        ap (λ o. or_else o (s.rows x))
        (when ((nat_eq n n || shows kind n) && same_at i i) (Some m.skipped) None
        (and_of (nat_eq n n || shows kind n) (same_at i i) (ap (λ z. z || shows kind n) (same_self n)) (same_self_at i))) in
        let is = own_at s2 x (Some kind) (Some m.skipped) None None kn there' de.not_running de.not_open in
        subst (Grows s (Skip n i)) (sym to)
        (grows n i s s2 (omega (arith, was, is))
        (λ y u. new_rows s new n kind i (λ z q h. skipped_in m kind n i z q h) none s.opens y refl))
    step_grows s (Open n i) s' k b r (after, kind, c, de, pass, to) =
        let x = address n i in let p = m.decide x s.rows in let new = passed_over m kind (m.taken p) i in
        let v : Opening Decision Verdict = record { decision = p; next = 0; test = None } in
        let s2 : St = record { rows = place new s.rows; running = s.running; opens = opened n i (Some v) s.opens } in
        let kn = kind_is s n i after kind de.is_there in
        let none = none_in m d so f sol s b r n i after kind de in
        let was = own_at s x (Some kind) None None None kn de.no_row de.not_running de.not_open in
        let is = own_at s2 x (Some kind) (place new s.rows x) None (Some v) kn refl de.not_running
        (when (is_own n i x) (Some v) (s.opens x) (own_self n i)) in
        let pos = opening_worth kind v (place new s.rows x) in
        subst (Grows s (Open n i)) (sym to)
        (grows n i s s2 (omega (arith, was, is, pos))
        (λ y u. new_rows s new n kind i (λ z q h. held_in n kind i z (passed_in m kind (m.taken p) i z q h)) none
        (opened n i (Some v) s.opens) y
        (sym (unless (is_own n i y) (Some v) (s.opens y) u))))
      where
        opening_worth : (kind : Kind) (v : Opening Decision Verdict) (o : Option Row)
            → 1 ≤ worth {Begun = Begun} {Verdict = Verdict} (Some kind) turns o None (Some v)
        opening_worth kind v (Some q) = omega arith
        opening_worth Leaf v None = omega arith
        opening_worth (Scope g) v None = omega arith
        opening_worth (Choice bs) v None = omega arith
        opening_worth (Foreach pace g) v None = omega arith
        opening_worth (Until most g) v None = omega arith
    step_grows s (Begin n i) s' k b r (after, kind, w, th, e, may, to) =
        subst (Grows s (Begin n i)) (sym to)
        (loop_grows s b n i after kind w (record { decision = w.decision; next = suc w.next; test = None }) th e (not_running s k n i w e)
        (begin_worth s k n i after kind w th e may))
    step_grows s (Test n i) s' k b r (after, kind, w, j, th, e, may, to) =
        subst (Grows s (Test n i)) (sym to)
        (loop_grows s b n i after kind w (record { decision = w.decision; next = w.next; test = Some (m.test (address n i) j s.rows) }) th e
        (not_running s k n i w e)
        (test_worth s kind i w j (m.test (address n i) j s.rows) may))
    step_grows s (Close n i) s' k b r (after, kind, w, th, e, may, to) =
        let x = address n i in let row = closing m kind x w s.rows in
        let s2 : St = record { rows = place (one n i row) s.rows; running = s.running; opens = opened n i None s.opens } in
        let kn = kind_is s n i after kind th in let no = b.no_row x (inr (w, e)) in let nr = not_running s k n i w e in
        let was = own_at s x (Some kind) None None (Some w) kn no nr e in
        let is = own_at s2 x (Some kind) (Some row) None None kn (placed_one n i row s.rows) nr
        (when (is_own n i x) None (s.opens x) (own_self n i)) in
        let kept = step_keeps m d so f sol closed out s (Close n i) s2 k (after, kind, w, th, e, may, refl) in
        let t = closed_tells s k n i after kind w th e may (kept.placed.by x row (placed_one n i row s.rows)) in
        subst (Grows s (Close n i)) (sym to)
        (grows n i s s2 (omega (arith, was, is, t))
        (λ y u. same_else s s2 y (one_else n i row s.rows y u) refl (sym (unless (is_own n i y) None (s.opens y) u))))

    run_grows : (s : St) (es : List Event) (s' : St) → Keeps m d so f sol s → Busy m d so f sol s → Rooted m d so f sol s → Run d m s es s'
        → (xs : List Address) → ((x : Address) → 1 ≤ own s' x → Among xs x)
        → ((x : Address) → own s x ≤ own s' x) × (length es + sum_of (own s) xs ≤ sum_of (own s') xs)
    run_grows s [] s' k b r run xs all =
        subst (λ z. ((x : Address) → own s x ≤ own z x) × (0 + sum_of (own s) xs ≤ sum_of (own z) xs)) (sym run)
        ((λ x. omega arith), omega arith)
    run_grows s (e ∷ es) s' k b r (mid, st, rest) xs all =
        let g = step_grows s e mid k b r st in
        let later = run_grows mid es s' (step_keeps m d so f sol closed out s e mid k st) (step_busy m d so f sol out s e mid k b st)
        (step_rooted m d so f sol s e mid b r st) rest xs all in
        let here : 1 ≤ own s' (place_of e) = (let x = g.1 in let y = later.0 (place_of e) in omega (arith, x, y)) in
        let more = sum_more (own s) (own mid) g.0 xs (place_of e) (all (place_of e) here) g.1 in
        let last' = later.1 in
        ((λ x. let a = g.0 x in let c = later.0 x in omega (arith, a, c)), omega (arith, more, last'))

    pub events_are_few : (RowAt LeafAt OpenAt : Type 0) (s : St) (es : List Event) (s' : St) → Keeps m d so f sol s → Busy m d so f sol s
        → Rooted m d so f sol s → Run d m s es s'
        → Keeps m d so f sol s' → Busy m d so f sol s'
        → (row_at : RowAt → Address) (row : RowAt → Row) (leaf_at : LeafAt → Address) (leaf : LeafAt → Running Begun)
        (open_at : OpenAt → Address) (opening : OpenAt → Opening Decision Verdict)
        → (of_row : RowAt → ℕ) (of_leaf : LeafAt → ℕ) (of_open : OpenAt → ℕ) → Costs turns row leaf opening of_row of_leaf of_open
        → (rows : List RowAt) (leaves : List LeafAt) (opens : List OpenAt) → Lists row_at row s'.rows rows
        → Lists leaf_at leaf s'.running leaves → Lists open_at opening s'.opens opens
        → 32 * length es ≤ sum_of of_row rows + sum_of of_leaf leaves + sum_of of_open opens
    events_are_few RowAt LeafAt OpenAt s es s' k b r run k' b' row_at row leaf_at leaf open_at opening of_row of_leaf of_open costs rows
        leaves opens lr ll lo =
        let xs = spots row_at rows ++ spots leaf_at leaves ++ spots open_at opens in
        let g = (run_grows s es s' k b r run xs covered).1 in
        let e1 = sum_append (own s') (spots row_at rows ++ spots leaf_at leaves) (spots open_at opens) in
        let e2 = sum_append (own s') (spots row_at rows) (spots leaf_at leaves) in
        let c1 = spots_cost row_at (own s') of_row rows (λ e a. row_cost e (lr.each e a)) in
        let c2 = spots_cost leaf_at (own s') of_leaf leaves (λ e a. leaf_cost e (ll.each e a)) in
        let c3 = spots_cost open_at (own s') of_open opens (λ e a. open_cost e (lo.each e a)) in
        omega (arith, g, e1, e2, c1, c2, c3)
      where
        row_cost : (e : RowAt) → s'.rows (row_at e) ≡ Some (row e) → 32 * own s' (row_at e) ≤ of_row e
        row_cost e h =
            let x = own_at s' (row_at e) (kind_of d (row_at e).name) (Some (row e)) (s'.running (row_at e))
            (s'.opens (row_at e)) refl h refl refl in
            let c = costs.rows e in omega (arith, x, c)

        leaf_cost : (e : LeafAt) → s'.running (leaf_at e) ≡ Some (leaf e) → 32 * own s' (leaf_at e) ≤ of_leaf e
        leaf_cost e h =
            let x = own_at s' (leaf_at e) (kind_of d (leaf_at e).name) None (Some (leaf e)) (s'.opens (leaf_at e)) refl
            (b'.no_row (leaf_at e) (inl (leaf e, h))) h refl in
            let c = costs.leaves e in omega (arith, x, c)

        open_most : (k : Option Kind) (w : Opening Decision Verdict) → worth {Begun = Begun} {Verdict = Verdict} k turns None None
            (Some w) ≤ 2 * suc w.next
        open_most None w = omega arith
        open_most (Some Leaf) w = omega arith
        open_most (Some (Scope g)) w = omega arith
        open_most (Some (Choice bs)) w = omega arith
        open_most (Some (Foreach pace g)) w = let y = tested_most w.next w.test in omega (arith, y)
        open_most (Some (Until most g)) w = let y = tested_most w.next w.test in omega (arith, y)

        open_cost : (e : OpenAt) → s'.opens (open_at e) ≡ Some (opening e) → 32 * own s' (open_at e) ≤ of_open e
        open_cost e h =
            let y = open_at e in
            let x = own_at s' y (kind_of d y.name) None None (Some (opening e)) refl (b'.no_row y (inr (opening e, h)))
            (not_running s' k' y.name y.at (opening e) h) h in
            let c = costs.opens e in let l = open_most (kind_of d y.name) (opening e) in omega (arith, x, c, l)

        -- each address with an entry is in one of the lists
        covered : (x : Address) → 1 ≤ own s' x → Among (spots row_at rows ++ spots leaf_at leaves ++ spots open_at opens) x
        covered x pos = at_row (s'.rows x) refl
          where
            at_open : (o : Option (Opening Decision Verdict)) → s'.opens x ≡ o → s'.rows x ≡ None → s'.running x ≡ None
                → Among (spots row_at rows ++ spots leaf_at leaves ++ spots open_at opens) x
            at_open None e er el =
                absurd (let z : own s' x ≡ 0 = own_at s' x (kind_of d x.name) None None None refl er el e in omega (arith, z, pos))
            at_open (Some w) e er el =
                let z = lo.all x w e in
                among_back (spots row_at rows ++ spots leaf_at leaves) (spots open_at opens) x
                (subst (Among (spots open_at opens)) z.2 (among_spots open_at opens z.0 z.1))

            at_leaf : (o : Option (Running Begun)) → s'.running x ≡ o → s'.rows x ≡ None
                → Among (spots row_at rows ++ spots leaf_at leaves ++ spots open_at opens) x
            at_leaf None e er = at_open (s'.opens x) refl er e
            at_leaf (Some w) e er =
                let z = ll.all x w e in
                among_front (spots row_at rows ++ spots leaf_at leaves) (spots open_at opens) x
                (among_back (spots row_at rows) (spots leaf_at leaves) x
                (subst (Among (spots leaf_at leaves)) z.2 (among_spots leaf_at leaves z.0 z.1)))

            at_row : (o : Option Row) → s'.rows x ≡ o → Among (spots row_at rows ++ spots leaf_at leaves ++ spots open_at opens) x
            at_row None e = at_leaf (s'.running x) refl e
            at_row (Some q) e =
                let z = lr.all x q e in
                among_front (spots row_at rows ++ spots leaf_at leaves) (spots open_at opens) x
                (among_front (spots row_at rows) (spots leaf_at leaves) x
                (subst (Among (spots row_at rows)) z.2 (among_spots row_at rows z.0 z.1)))

module _ {Row Begun Decision Verdict RowAt LeafAt OpenAt : Type 0} (d : Graph) (m : Source Row Begun Decision Verdict) (depth : ℕ → ℕ)
    (is : IsInstance d m depth) where
  pub events_of_runs_are_few : EventsOfRunsAreFew RowAt LeafAt OpenAt d m depth
  events_of_runs_are_few es s run turns tells row_at row leaf_at leaf open_at opening of_row of_leaf of_open costs rows leaves opens lr ll
      lo =
      let f : Table Row = meaning m depth d in
      events_are_few m d is.local f (sol_of d m depth is) turns tells (closed_is m d is.local f (sol_of d m depth is) is.closed)
      (nothing_special d m depth is) RowAt LeafAt OpenAt fresh es s
      (kept_state d m depth is [] fresh refl) (busy_state d m depth is [] fresh refl) (rooted_state d m depth is [] fresh refl) run
      (kept_state d m depth is es s run) (busy_state d m depth is es s run)
      row_at row leaf_at leaf open_at opening of_row of_leaf of_open costs rows leaves opens lr ll lo
