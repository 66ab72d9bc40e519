-- Each event takes one from what is left.
use Rattle.std.proofs.Common.{◌≡◌, ℕ, zero, suc, ◌+◌, ◌-◌, ◌<◌, Bool, true, false, ◌&&◌, ◌||◌, cond, List, [], ◌∷◌, ◌++◌, Option, Some, None, inl, inr, ⊎_elim, refl, sym, ap, ◌∙◌, subst, arith, nat_eq, eqb-true, true≢false, nat_lt, ltb-true, ltb-false, length}
use Rattle.std.proofs.lemmas.Bool.{eqb-false, lt-ltb, le-ltb}
use Rattle.std.proofs.lemmas.Option.{none-some}
use Rattle.wf_layers.specs.Definition.{Need, Pace, InTurn, AtMost, Kind, Leaf, Scope, Choice, Foreach, Until, Branches, no_branch, branch, Graph, done, add, is_one, less_one, branch_at, holds, has, has_any, shows, kind_of, IsBefore}
use Rattle.wf_layers.specs.Address.{Address, address, Table, same_at, starts, is_own, is_in, is_within, is_among, SeenIn}
use Rattle.wf_layers.specs.Source.{Source, gate, SoundAny, Sound}
use Rattle.wf_layers.specs.Meaning.{rounds, skip}
use Rattle.wf_layers.specs.Rule.{Obeys}
use Rattle.wf_layers.proofs.Basics.{two, and_in, and_of, not_true, same_self, same_self_at, index_once, when, unless, in_within, rest_within, own_in, held_in, inner_not_own, outer_of}
use Rattle.wf_layers.specs.Machine.{Running, Opening, State, In, here, there, IsOpen, top, scope, chosen, turn, round, has_ended, is_ended, or_else, place, one, without, opened, Event, Start, Try, End, Skip, Open, Begin, Test, Close, IsContainer, passed_over, skip_others, MayBegin, MayTest, MayClose, closing, IsThere, IsDecided, Step, Run}
use Rattle.wf_layers.proofs.Tables.{own_is, own_self, same_starts, skip_in, shows_holds, either_or, taken_within}
use Rattle.wf_layers.proofs.Places.{Stands, stands, within_of, or_none}
use Rattle.wf_layers.specs.Bound.{sum, untested, by_state, total_of, total_in, total_any, total, left_in, left_any, left}
use Rattle.wf_layers.proofs.Bound.{sum_same, sum_zero, sum_falls, begun_most}
use Rattle.wf_layers.specs.Facts.{Settled, OpenFact}
use Rattle.wf_layers.proofs.Others.{others_among, some_others}
use Rattle.wf_layers.proofs.Open.{open_sub, placed_in, kind_there, fact_of}
use Rattle.wf_layers.proofs.Keeps.{Keeps, IsClosed, SpecialOut, decided_gate, open_mono}
use Rattle.wf_layers.proofs.Events.{step_keeps, own_row, rounds_is}
use Rattle.wf_layers.proofs.Busy.{Busy, step_busy}
use Rattle.wf_layers.proofs.Rooted.{Rooted, none_in, none_turn, none_round, step_rooted, taken_not_others, placed_one}

module _ {Row Begun Decision Verdict : Type 0} (m : Source Row Begun Decision Verdict) (f : Table Row) where
  -- WHERE NOTHING CHANGES
  module _ (s u : State Row Begun Decision Verdict) where
    abbrev pub SameAt : Address → Type 0
    SameAt y = (u.rows y ≡ s.rows y) × (u.running y ≡ s.running y) × (u.opens y ≡ s.opens y)

    by_more : (a : Option Row) (b : Option (Running Begun)) (c : Option (Opening Decision Verdict)) (run : Running Begun → ℕ)
        (h k : Opening Decision Verdict → ℕ) (all : ℕ) → ((w : Opening Decision Verdict) → h w ≡ k w)
        → by_state a b c run h all ≡ by_state a b c run k all
    by_more (Some r) b c run h k all e = refl
    by_more None (Some w) c run h k all e = refl
    by_more None None (Some w) run h k all e = e w
    by_more None None None run h k all e = refl

    by_same : (x : Address) (run : Running Begun → ℕ) (h k : Opening Decision Verdict → ℕ) (all : ℕ) → SameAt x
        → ((w : Opening Decision Verdict) → h w ≡ k w) → by_state (s.rows x) (s.running x) (s.opens x) run h all ≡ by_state (u.rows x)
        (u.running x) (u.opens x) run k all
    by_same x run h k all q e =
        by_more (s.rows x) (s.running x) (s.opens x) run h k all e
        ∙ ap (λ z. by_state z (s.running x) (s.opens x) run k all) (sym q.0)
        ∙ ap (λ z. by_state (u.rows x) z (s.opens x) run k all) (sym q.1)
        ∙ ap (λ z. by_state (u.rows x) (u.running x) z run k all) (sym q.2)

    mutual
      same_in : (kind : Kind) (n : ℕ) (i : List ℕ) (w : Opening Decision Verdict)
          → ((y : Address) → (holds kind y.name && starts i y.at) ≡ true → SameAt y) → left_in m f s kind n i w ≡ left_in m f u kind n i w
      same_in Leaf n i w h = refl
      same_in (Scope g) n i w h = ap suc (same_left g i h)
      same_in (Choice bs) n i w h = ap suc (same_any bs (m.taken w.decision) i h)
      same_in (Foreach pace g) n i w h =
          ap suc (sum_same (m.items w.decision) _ _
          (λ j lt. ap (λ z. cond (nat_lt j w.next) z (suc (total m f g (i ++ j ∷ []))))
          (same_left g (i ++ j ∷ []) (λ y q. h y (outer_of g i j y q)))))
      same_in (Until most g) n i w h =
          ap (λ z. suc (z + untested w.next w.test))
          (sum_same (rounds most 0 (λ j. m.ends (m.test (address n i) j f))) _ _
          (λ j lt. ap (λ z. cond (nat_lt j w.next) z (suc (suc (total m f g (i ++ j ∷ [])))))
          (same_left g (i ++ j ∷ []) (λ y q. h y (outer_of g i j y q)))))

      same_any : (bs : Branches) (c : ℕ) (i : List ℕ) → ((y : Address) → is_among bs i y ≡ true → SameAt y)
          → left_any m f s bs c i ≡ left_any m f u bs c i
      same_any no_branch c i h = refl
      same_any (branch b rest) c i h =
          ap (λ z. cond (is_one c) z (left_any m f s rest (less_one c) i)) (same_left b i (λ y q. h y (among_first b rest i y q)))
          ∙ ap (λ z. cond (is_one c) (left m f u b i) z) (same_any rest (less_one c) i (λ y q. h y (among_later b rest i y q)))
        where
          among_first : (b : Graph) (rest : Branches) (i : List ℕ) (y : Address) → is_within b i y ≡ true
              → is_among (branch b rest) i y ≡ true
          among_first b rest i y w =
              let h = and_in (has b y.name) (starts i y.at) w in
              and_of (has_any (branch b rest) y.name) (starts i y.at) (ap (λ z. z || has_any rest y.name) h.0) h.1

          among_later : (b : Graph) (rest : Branches) (i : List ℕ) (y : Address) → is_among rest i y ≡ true
              → is_among (branch b rest) i y ≡ true
          among_later b rest i y w =
              let h = and_in (has_any rest y.name) (starts i y.at) w in
              and_of (has_any (branch b rest) y.name) (starts i y.at) (or_so (has b y.name) (has_any rest y.name) h.0) h.1
            where
              or_so : (p q : Bool) → q ≡ true → (p || q) ≡ true
              or_so true q e = refl
              or_so false q e = e

      pub same_left : (g : Graph) (i : List ℕ) → ((y : Address) → is_within g i y ≡ true → SameAt y) → left m f s g i ≡ left m f u g i
      same_left done i h = refl
      same_left (add n after kind rest) i h =
          let x = by_same (address n i) (λ w. suc (m.tries (address n i) w.begun - w.tries)) (λ w. left_in m f s kind n i w)
          (λ w. left_in m f u kind n i w) (total_of m f after n i (total_in m f kind n i))
          (h (address n i) (in_within n after kind rest i (address n i) (own_in n kind i)))
          (λ w. same_in kind n i w (λ y q. h y (in_within n after kind rest i y (held_in n kind i y q)))) in
          let z = same_left rest i (λ y q. h y (rest_within n after kind rest i y q)) in
          omega (arith, x, z)

  -- where nothing is, all is left; and where each action has a row, nothing
  module _ (s : State Row Begun Decision Verdict) where
    abbrev Nothing : Address → Type 0
    Nothing y = (s.rows y ≡ None) × (s.running y ≡ None) × (s.opens y ≡ None)

    pub by_none : (x : Address) (run : Running Begun → ℕ) (h : Opening Decision Verdict → ℕ) (all : ℕ) → Nothing x
        → by_state (s.rows x) (s.running x) (s.opens x) run h all ≡ all
    by_none x run h all q =
        ap (λ z. by_state z (s.running x) (s.opens x) run h all) q.0 ∙ ap (λ z. by_state {Row = Row} None z (s.opens x) run h all) q.1
        ∙ ap (λ z. by_state {Row = Row} {Begun = Begun} None None z run h all) q.2

    pub by_row : (x : Address) (r : Row) (run : Running Begun → ℕ) (h : Opening Decision Verdict → ℕ) (all : ℕ) → s.rows x ≡ Some r
        → by_state (s.rows x) (s.running x) (s.opens x) run h all ≡ 0
    by_row x r run h all e = ap (λ z. by_state z (s.running x) (s.opens x) run h all) e

    pub by_run : (x : Address) (w : Running Begun) (run : Running Begun → ℕ) (h : Opening Decision Verdict → ℕ) (all : ℕ) → s.rows x ≡ None
        → s.running x ≡ Some w → by_state (s.rows x) (s.running x) (s.opens x) run h all ≡ run w
    by_run x w run h all e q =
        ap (λ z. by_state z (s.running x) (s.opens x) run h all) e ∙ ap (λ z. by_state {Row = Row} None z (s.opens x) run h all) q

    pub by_open : (x : Address) (w : Opening Decision Verdict) (run : Running Begun → ℕ) (h : Opening Decision Verdict → ℕ) (all : ℕ)
        → s.rows x ≡ None → s.running x ≡ None → s.opens x ≡ Some w → by_state (s.rows x) (s.running x) (s.opens x) run h all ≡ h w
    by_open x w run h all e q o =
        ap (λ z. by_state z (s.running x) (s.opens x) run h all) e ∙ ap (λ z. by_state {Row = Row} None z (s.opens x) run h all) q
        ∙ ap (λ z. by_state {Row = Row} {Begun = Begun} None None z run h all) o

    pub none_left : (g : Graph) (i : List ℕ) → ((y : Address) → is_within g i y ≡ true → Nothing y) → left m f s g i ≡ total m f g i
    none_left done i h = refl
    none_left (add n after kind rest) i h =
        let x = by_none (address n i) (λ w. suc (m.tries (address n i) w.begun - w.tries)) (λ w. left_in m f s kind n i w)
        (total_of m f after n i (total_in m f kind n i))
        (h (address n i) (in_within n after kind rest i (address n i) (own_in n kind i))) in
        let z = none_left rest i (λ y q. h y (rest_within n after kind rest i y q)) in
        omega (arith, x, z)

    pub ended_left : (g : Graph) (i : List ℕ) → is_ended g i s.rows ≡ true → left m f s g i ≡ 0
    ended_left done i h = refl
    ended_left (add n after kind rest) i h =
        let q = and_in (has_ended (s.rows (address n i))) (is_ended rest i s.rows) h in
        let x = row_zero (s.rows (address n i)) refl q.0 in
        let z = ended_left rest i q.1 in
        omega (arith, x, z)
      where
        row_zero : (o : Option Row) → s.rows (address n i) ≡ o → has_ended (s.rows (address n i)) ≡ true
            → by_state (s.rows (address n i)) (s.running (address n i)) (s.opens (address n i))
            (λ w. suc (m.tries (address n i) w.begun - w.tries)) (λ w. left_in m f s kind n i w)
            (total_of m f after n i (total_in m f kind n i)) ≡ 0
        row_zero None e h = absurd (true≢false (sym h ∙ ap has_ended e))
        row_zero (Some r) e h =
            by_row (address n i) r (λ w. suc (m.tries (address n i) w.begun - w.tries)) (λ w. left_in m f s kind n i w)
            (total_of m f after n i (total_in m f kind n i)) e

  -- what is left of an action
  abbrev pub entry : State Row Begun Decision Verdict → ℕ → List Need → Kind → List ℕ → ℕ
  entry s n after kind i =
      by_state (s.rows (address n i)) (s.running (address n i)) (s.opens (address n i)) (λ w. suc (m.tries (address n i) w.begun - w.tries))
      (λ w. left_in m f s kind n i w) (total_of m f after n i (total_in m f kind n i))

  -- WHERE IT FALLS BY ONE, IN A REGION
  module _ (s u : State Row Begun Decision Verdict) (R : Address → Bool) (same : (y : Address) → R y ≡ false → SameAt s u y) where
    pub graph_falls : (Sees : Address → Address → Type 0) (l : ℕ) (g : Graph) (i : List ℕ) (n : ℕ) (after : List Need) (kind : Kind)
        → Sound m Sees g l → In g n after kind → ((y : Address) → R y ≡ true → is_in n kind i y ≡ true)
        → entry s n after kind i ≡ suc (entry u n after kind i) → left m f s g i ≡ suc (left m f u g i)
    graph_falls Sees l _ i n after kind so (here {rest = rest}) inside at =
        let x = same_left s u rest i (λ y w. same y (not_true (R y) (λ t.
        true≢false (sym (and_in (has rest y.name) (starts i y.at) w).0
        ∙ so.2 y.name (and_in (nat_eq n y.name || holds kind y.name) (starts i y.at) (inside y t)).0)))) in
        omega (arith, x, at)
    graph_falls Sees l _ i n after kind so (there {m = q} {before = before} {other = other} {rest = rest} st) inside at =
        let x = graph_falls Sees l rest i n after kind so.4 st inside at in
        let z = by_same s u (address q i) (λ w. suc (m.tries (address q i) w.begun - w.tries)) (λ w. left_in m f s other q i w)
        (λ w. left_in m f u other q i w) (total_of m f before q i (total_in m f other q i))
        (off (address q i) (own_in q other i)) (λ w. same_in s u other q i w (λ y h. off y (held_in q other i y h))) in
        omega (arith, x, z)
      where
        st' : Stands m (λ a b. Unit {0}) Sees l rest n after kind
        st' = stands m (λ a b. Unit {0}) Sees l rest n after kind so.4 st

        off : (y : Address) → is_in q other i y ≡ true → SameAt s u y
        off y h = same y (not_true (R y) (λ t.
            true≢false (sym (and_in (has rest y.name) (starts i y.at)
            (within_of m (λ a b. Unit {0}) Sees l rest n after kind st' i y (inside y t))).0
            ∙ so.2 y.name (and_in (nat_eq q y.name || holds other y.name) (starts i y.at) h).0)))

module _ {Row Begun Decision Verdict : Type 0} (m : Source Row Begun Decision Verdict) (d : Graph) (so : Sound m (SeenIn d) d 0)
    (f : Table Row) (sol : Obeys m d f) where
  abbrev Leaves : State Row Begun Decision Verdict → Graph → List ℕ → ℕ
  Leaves s g i = left m f s g i

  -- an open container has no row and isn't running
  pub open_idle : (s : State Row Begun Decision Verdict) → Keeps m d so f sol s → Busy m d so f sol s
      → (x : Address) (w : Opening Decision Verdict) → s.opens x ≡ Some w → (s.rows x ≡ None) × (s.running x ≡ None)
  open_idle s k b x w e = (b.no_row x (inr (w, e)), go (s.running x) refl)
    where
      go : (o : Option (Running Begun)) → s.running x ≡ o → s.running x ≡ None
      go None h = h
      go (Some v) h = absurd (k.facts x.name x.at w Leaf e (k.held x v h).is_leaf).1

  module _ (s u : State Row Begun Decision Verdict) (k : Keeps m d so f sol s) (b : Busy m d so f sol s) (R : Address → Bool)
      (same : (y : Address) → R y ≡ false → SameAt m f s u y) where
    -- at an open container
    opened_falls : (n : ℕ) (after : List Need) (kind : Kind) (i : List ℕ) (w : Opening Decision Verdict) → s.opens (address n i) ≡ Some w
        → R (address n i) ≡ false → left_in m f s kind n i w ≡ suc (left_in m f u kind n i w)
        → entry m f s n after kind i ≡ suc (entry m f u n after kind i)
    opened_falls n after kind i w e off falls =
        let idle = open_idle s k b (address n i) w e in let q = same (address n i) off in
        by_open m f s (address n i) w (λ w. suc (m.tries (address n i) w.begun - w.tries)) (λ w. left_in m f s kind n i w)
        (total_of m f after n i (total_in m f kind n i)) idle.0 idle.1 e
        ∙ falls
        ∙ ap suc (sym (by_open m f u (address n i) w (λ w. suc (m.tries (address n i) w.begun - w.tries)) (λ w. left_in m f u kind n i w)
        (total_of m f after n i (total_in m f kind n i)) (q.0 ∙ idle.0) (q.1 ∙ idle.1) (q.2 ∙ e)))

    off_of : (h : Graph) (n : ℕ) (i j : List ℕ) → has h n ≡ false → ((y : Address) → R y ≡ true → is_within h j y ≡ true)
        → R (address n i) ≡ false
    off_of h n i j nh inside =
        not_true (R (address n i)) (λ t. true≢false (sym (and_in (has h n) (starts j i) (inside (address n i) t)).0 ∙ nh))

    any_falls : (bs : Branches) (c : ℕ) (g : Graph) (i : List ℕ) → branch_at bs c ≡ Some g → left m f s g i ≡ suc (left m f u g i)
        → left_any m f s bs c i ≡ suc (left_any m f u bs c i)
    any_falls no_branch c g i e at = absurd (none-some g e)
    any_falls (branch a rest) c g i e at =
        ⊎_elim
        (λ t. let v : Some a ≡ Some g = sym (when (is_one c) (Some a) _ t) ∙ e in let is : a ≡ g = cc in
        when (is_one c) (left m f s a i) _ t ∙ subst (λ z. left m f s z i ≡ suc (left m f u z i)) (sym is) at
        ∙ ap suc (sym (when (is_one c) (left m f u a i) _ t)))
        (λ t. unless (is_one c) (left m f s a i) _ t ∙ any_falls rest (less_one c) g i (sym (unless (is_one c) (Some a) _ t) ∙ e) at
        ∙ ap suc (sym (unless (is_one c) (left m f u a i) _ t)))
        (two (is_one c))

    -- other iterations stay
    other_turn : (h : Graph) (i : List ℕ) (j q : ℕ) → ((y : Address) → R y ≡ true → is_within h (i ++ j ∷ []) y ≡ true) → (q ≡ j → ⊥)
        → left m f s h (i ++ q ∷ []) ≡ left m f u h (i ++ q ∷ [])
    other_turn h i j q inside ne =
        same_left m f s u h (i ++ q ∷ []) (λ y w. same y (not_true (R y) (λ t.
        ne (index_once i q j y.at (and_in (has h y.name) (starts (i ++ q ∷ []) y.at) w).1
        (and_in (has h y.name) (starts (i ++ j ∷ []) y.at) (inside y t)).1))))

    turn_falls : (c next : ℕ) (h : Graph) (i : List ℕ) (j : ℕ) (v : ℕ → ℕ) → j < next → j < c
        → ((y : Address) → R y ≡ true → is_within h (i ++ j ∷ []) y ≡ true) → left m f s h (i ++ j ∷ []) ≡ suc (left m f u h (i ++ j ∷ []))
        → sum c (λ j. cond (nat_lt j next) (left m f s h (i ++ j ∷ [])) (v j)) ≡ sum c
        (λ j. cond (nat_lt j next) (left m f u h (i ++ j ∷ [])) (v j)) + 1
    turn_falls c next h i j v lt lc inside at =
        sum_falls c j 1 (λ j. cond (nat_lt j next) (left m f s h (i ++ j ∷ [])) (v j))
        (λ j. cond (nat_lt j next) (left m f u h (i ++ j ∷ [])) (v j)) lc
        (λ q l ne. ap (λ z. cond (nat_lt q next) z (v q)) (other_turn h i j q inside ne))
        (let x = when (nat_lt j next) (left m f s h (i ++ j ∷ [])) (v j) (lt_is j next lt) in
        let y = when (nat_lt j next) (left m f u h (i ++ j ∷ [])) (v j) (lt_is j next lt) in omega (arith, x, y, at))
      where
        lt_is : (j next : ℕ) → j < next → nat_lt j next ≡ true
        lt_is j next lt = lt-ltb j next lt

    -- from an open graph to the whole definition
    pub open_falls : (g : Graph) (i : List ℕ) → IsOpen m.taken d s.opens g i → ((y : Address) → R y ≡ true → is_within g i y ≡ true)
        → left m f s g i ≡ suc (left m f u g i) → left m f s d [] ≡ suc (left m f u d [])
    open_falls _ _ top = λ inside at. at
    open_falls _ i (scope {g = g} {h = h} {n = n} {after = after} {w = w} og st e) = λ inside at.
        let sub = open_sub m d so f sol s.opens g i og in let pl = placed_in m d so f sol (length i) g n after (Scope h) sub st in
        open_falls g i og (λ y t. within_of m (IsBefore d) (SeenIn d) (length i) g n after (Scope h) pl i y
        (held_in n (Scope h) i y (inside y t)))
        (graph_falls m f s u R same (SeenIn d) (length i) g i n after (Scope h) sub.sound st (λ y t. held_in n (Scope h) i y (inside y t))
        (opened_falls n after (Scope h) i w e (off_of h n i i pl.apart_own inside) (ap suc at)))
    open_falls _ i (chosen {g = g} {b = x} {n = n} {after = after} {bs = bs} {w = w} og st e is) = λ inside at.
        let sub = open_sub m d so f sol s.opens g i og in let pl = placed_in m d so f sol (length i) g n after (Choice bs) sub st in
        let into : (y : Address) → R y ≡ true → is_among bs i y ≡ true =
        λ y t. taken_within x bs (m.taken w.decision) is i y (inside y t) in
        open_falls g i og (λ y t. within_of m (IsBefore d) (SeenIn d) (length i) g n after (Choice bs) pl i y
        (held_in n (Choice bs) i y (into y t)))
        (graph_falls m f s u R same (SeenIn d) (length i) g i n after (Choice bs) sub.sound st (λ y t. held_in n (Choice bs) i y (into y t))
        (opened_falls n after (Choice bs) i w e
        (not_true (R (address n i))
        (λ t. true≢false (sym (and_in (has_any bs n) (starts i i) (into (address n i) t)).0 ∙ pl.apart_own)))
        (ap suc (any_falls bs (m.taken w.decision) x i is at))))
    open_falls _ _ (turn {g = g} {h = h} {i = i} {n = n} {after = after} {pace = pace} {w = w} j og st e lt) = λ inside at.
        let sub = open_sub m d so f sol s.opens g i og in let pl = placed_in m d so f sol (length i) g n after (Foreach pace h) sub st in
        let into : (y : Address) → R y ≡ true → is_within h i y ≡ true = λ y t. outer_of h i j y (inside y t) in
        let fact = fact_of m d so f sol s.rows s.opens k.facts g i n after (Foreach pace h) w og st e in let le = fact.1.1 in
        let x = turn_falls (m.items w.decision) w.next h i j (λ j. suc (total m f h (i ++ j ∷ []))) lt (omega (arith, lt, le)) inside at in
        open_falls g i og (λ y t. within_of m (IsBefore d) (SeenIn d) (length i) g n after (Foreach pace h) pl i y
        (held_in n (Foreach pace h) i y (into y t)))
        (graph_falls m f s u R same (SeenIn d) (length i) g i n after (Foreach pace h) sub.sound st
        (λ y t. held_in n (Foreach pace h) i y (into y t))
        (opened_falls n after (Foreach pace h) i w e (off_of h n i i pl.apart_own into) (omega (arith, x))))
    open_falls _ _ (round {g = g} {h = h} {i = i} {n = n} {most = most} {after = after} {w = w} j og st e lt) = λ inside at.
        let sub = open_sub m d so f sol s.opens g i og in let pl = placed_in m d so f sol (length i) g n after (Until most h) sub st in
        let into : (y : Address) → R y ≡ true → is_within h i y ≡ true = λ y t. outer_of h i j y (inside y t) in
        let fact = fact_of m d so f sol s.rows s.opens k.facts g i n after (Until most h) w og st e in
        let le = begun_most most w.next (λ j. m.ends (m.test (address n i) j f)) fact.1.0 (λ j lt. (fact.1.1 j lt).0) in
        let x = turn_falls (rounds most 0 (λ j. m.ends (m.test (address n i) j f))) w.next h i j
        (λ j. suc (suc (total m f h (i ++ j ∷ [])))) lt (omega (arith, lt, le)) inside at in
        open_falls g i og (λ y t. within_of m (IsBefore d) (SeenIn d) (length i) g n after (Until most h) pl i y
        (held_in n (Until most h) i y (into y t)))
        (graph_falls m f s u R same (SeenIn d) (length i) g i n after (Until most h) sub.sound st
        (λ y t. held_in n (Until most h) i y (into y t))
        (opened_falls n after (Until most h) i w e (off_of h n i i pl.apart_own into) (omega (arith, x))))

  -- AT THE EVENT'S OWN ACTION
  not_in_own : (n : ℕ) (kind : Kind) (i : List ℕ) (y : Address) → is_in n kind i y ≡ false → is_own n i y ≡ false
  not_in_own n kind i y off =
      not_true (is_own n i y)
      (λ t. true≢false (sym (subst (λ (z : Address). is_in n kind i z ≡ true) (own_is n i y t) (own_in n kind i)) ∙ off))

  placed_off : {A : Type 0} (new t : Table A) (y : Address) → new y ≡ None → place new t y ≡ t y
  placed_off new t y e = ap (λ o. or_else o (t y)) e

  one_off : {A : Type 0} (n : ℕ) (kind : Kind) (i : List ℕ) (v : A) (y : Address) → is_in n kind i y ≡ false → one n i v y ≡ None
  one_off n kind i v y off = unless (is_own n i y) (Some v) None (not_in_own n kind i y off)

  event_falls : (s u : State Row Begun Decision Verdict) → Keeps m d so f sol s → Busy m d so f sol s
      → (n : ℕ) (i : List ℕ) (after : List Need) (kind : Kind) → IsThere d m s n i after kind
      → ((y : Address) → is_in n kind i y ≡ false → SameAt m f s u y) → entry m f s n after kind i ≡ suc (entry m f u n after kind i)
      → left m f s d [] ≡ suc (left m f u d [])
  event_falls s u k b n i after kind th same at =
      let g = th.graph in let sub = open_sub m d so f sol s.opens g i th.is_open in
      let pl = placed_in m d so f sol (length i) g n after kind sub th.is_in in
      open_falls s u k b (is_in n kind i) same g i th.is_open
      (λ y t. within_of m (IsBefore d) (SeenIn d) (length i) g n after kind pl i y t)
      (graph_falls m f s u (is_in n kind i) same (SeenIn d) (length i) g i n after kind sub.sound th.is_in (λ y t. t) at)

  -- what a decided action has ahead
  decided_entry : (s : State Row Begun Decision Verdict) → Busy m d so f sol s → Rooted m d so f sol s
      → (n : ℕ) (i : List ℕ) (after : List Need) (kind : Kind) → IsDecided d m s n i after kind
      → entry m f s n after kind i ≡ total_of m f after n i (total_in m f kind n i)
  decided_entry s b k n i after kind de =
      by_none m f s (address n i) (λ w. suc (m.tries (address n i) w.begun - w.tries)) (λ w. left_in m f s kind n i w)
      (total_of m f after n i (total_in m f kind n i)) (de.no_row, de.not_running, de.not_open)

  plain_total : (after : List Need) (n : ℕ) (i : List ℕ) (all : ℕ) → (m.pinned n || m.reclosed n) ≡ false
      → total_of m f after n i all ≡ cond (gate m after n i f) all 1
  plain_total after n i all sn =
      let q = or_none m (IsBefore d) (SeenIn d) (m.pinned n) (m.reclosed n) sn in
      unless (m.pinned n) 0 _ q.0 ∙ unless (m.reclosed n) (less_one all) _ q.1

  module _ (closed : IsClosed m d so f sol) (out : SpecialOut m d so f sol) where
    plain_there : (s : State Row Begun Decision Verdict) → Keeps m d so f sol s → (n : ℕ) (i : List ℕ) (after : List Need) (kind : Kind)
        → IsDecided d m s n i after kind → (m.pinned n || m.reclosed n) ≡ false
    plain_there s k n i after kind de =
        not_true (m.pinned n || m.reclosed n)
        (λ t. k.special de.is_there.graph i n after kind de.is_there.is_open de.is_there.is_in t de.no_row de.not_open)

    gate_there : (s : State Row Begun Decision Verdict) → Keeps m d so f sol s → (n : ℕ) (i : List ℕ) (after : List Need) (kind : Kind)
        → IsDecided d m s n i after kind → gate m after n i s.rows ≡ gate m after n i f
    gate_there s k n i after kind de =
        decided_gate m d so f sol closed s k de.is_there.graph i n after kind de.is_there.is_open de.is_there.is_in de.ended

    ran_entry : (s : State Row Begun Decision Verdict) → Keeps m d so f sol s → Busy m d so f sol s → Rooted m d so f sol s
        → (n : ℕ) (i : List ℕ) (after : List Need) (kind : Kind) → IsDecided d m s n i after kind → gate m after n i s.rows ≡ true
        → entry m f s n after kind i ≡ total_in m f kind n i
    ran_entry s k b q n i after kind de pass =
        decided_entry s b q n i after kind de ∙ plain_total after n i (total_in m f kind n i) (plain_there s k n i after kind de)
        ∙ when (gate m after n i f) (total_in m f kind n i) 1 (sym (gate_there s k n i after kind de) ∙ pass)

    -- a container that opens
    any_opens : (u : State Row Begun Decision Verdict) (bs : Branches) (c : ℕ) (i : List ℕ)
        → ((g : Graph) → branch_at bs c ≡ Some g → left m f u g i ≡ total m f g i) → left_any m f u bs c i ≡ total_any m f bs c i
    any_opens u no_branch c i h = refl
    any_opens u (branch x rest) c i h =
        ⊎_elim
        (λ t. when (is_one c) (left m f u x i) _ t ∙ h x (when (is_one c) (Some x) _ t) ∙ sym (when (is_one c) (total m f x i) _ t))
        (λ t. unless (is_one c) (left m f u x i) _ t ∙ any_opens u rest (less_one c) i (λ g e. h g (unless (is_one c) (Some x) _ t ∙ e))
        ∙ sym (unless (is_one c) (total m f x i) _ t))
        (two (is_one c))

    none_begun : (c : ℕ) (h v : ℕ → ℕ) → sum c (λ j. cond (nat_lt j 0) (h j) (v j)) ≡ sum c v
    none_begun c h v =
        sum_same c (λ j. cond (nat_lt j 0) (h j) (v j)) v (λ j lt. unless (nat_lt j 0) (h j) (v j) (le-ltb j 0 (omega arith)))

    open_entry : (u : State Row Begun Decision Verdict) → Keeps m d so f sol u → (n : ℕ) (i : List ℕ) (after : List Need) (kind : Kind)
        (w : Opening Decision Verdict) → IsContainer kind → IsThere d m u n i after kind → u.opens (address n i) ≡ Some w → w.next ≡ 0
        → ((y : Address) → (holds kind y.name && starts i y.at) ≡ true → (passed_over m kind (m.taken w.decision) i y ≡ None)
        → (u.rows y ≡ None) × (u.running y ≡ None) × (u.opens y ≡ None))
        → total_in m f kind n i ≡ suc (left_in m f u kind n i w)
    open_entry u k n i after Leaf w c th e zero' none = absurd c
    open_entry u k n i after (Scope h) w c th e zero' none = ap (λ z. suc (suc z)) (sym (none_left m f u h i (λ y q. none y q refl)))
    open_entry u k n i after (Choice bs) w c th e zero' none =
        let fact = fact_of m d so f sol u.rows u.opens k.facts th.graph i n after (Choice bs) w th.is_open th.is_in e in
        let pl = placed_in m d so f sol (length i) th.graph n after (Choice bs)
        (open_sub m d so f sol u.opens th.graph i th.is_open) th.is_in in
        ap (λ z. suc (suc (total_any m f bs (m.taken z) i))) (sym fact.1.0)
        ∙ ap (λ z. suc (suc z)) (sym (any_opens u bs (m.taken w.decision) i (λ g is. none_left m f u g i (λ y q.
        none y (taken_within g bs (m.taken w.decision) is i y q)
        (not_placed pl.sound.2 g is y q (skip_others m bs (m.taken w.decision) i y) refl)))))
      where
        not_placed : SoundAny m (SeenIn d) bs (length i) → (g : Graph) → branch_at bs (m.taken w.decision) ≡ Some g → (y : Address)
            → is_within g i y ≡ true → (o : Option Row) → skip_others m bs (m.taken w.decision) i y ≡ o
            → skip_others m bs (m.taken w.decision) i y ≡ None
        not_placed so' g is y q None e = e
        not_placed so' g is y q (Some r) e =
            absurd (taken_not_others m d so f sol bs (length i) (m.taken w.decision) g so' is i y
            (some_others m bs (m.taken w.decision) i y r e) q)
    open_entry u k n i after (Foreach pace h) w c th e zero' none =
        let fact = fact_of m d so f sol u.rows u.opens k.facts th.graph i n after (Foreach pace h) w th.is_open th.is_in e in
        ap (λ z. suc (suc (sum (m.items z) (λ j. suc (total m f h (i ++ j ∷ [])))))) (sym fact.1.0)
        ∙ ap (λ z. suc (suc z))
        (sym (none_begun (m.items w.decision) (λ j. left m f u h (i ++ j ∷ [])) (λ j. suc (total m f h (i ++ j ∷ [])))))
        ∙ ap (λ x. suc (suc (sum (m.items w.decision)
        (λ j. cond (nat_lt j x) (left m f u h (i ++ j ∷ [])) (suc (total m f h (i ++ j ∷ []))))))) (sym zero')
    open_entry u k n i after (Until most h) w c th e zero' none =
        let c = rounds most 0 (λ j. m.ends (m.test (address n i) j f)) in
        let x = none_begun c (λ j. left m f u h (i ++ j ∷ [])) (λ j. suc (suc (total m f h (i ++ j ∷ [])))) in
        let y = ap (λ x. sum c (λ j. cond (nat_lt j x) (left m f u h (i ++ j ∷ [])) (suc (suc (total m f h (i ++ j ∷ [])))))) zero' in
        let z = ap (λ x. untested x w.test) zero' in
        omega (arith, x, y, z)

    -- another iteration
    later_turn : (next j : ℕ) → (j ≡ next → ⊥) → nat_lt j next ≡ nat_lt j (suc next)
    later_turn next j ne =
        ⊎_elim
        (λ t. t ∙ sym (lt-ltb j (suc next) (let l = ltb-true j next t in omega (arith, l))))
        (λ t. t ∙ sym (le-ltb j (suc next) (let l = ltb-false j next t in omega (arith, l, ne))))
        (two (nat_lt j next))

    begin_sum : (c next gain : ℕ) (h k v : ℕ → ℕ) → next < c → ((j : ℕ) → j < c → h j ≡ k j) → v next ≡ k next + gain
        → sum c (λ j. cond (nat_lt j next) (h j) (v j)) ≡ sum c (λ j. cond (nat_lt j (suc next)) (k j) (v j)) + gain
    begin_sum c next gain h k v lt same at =
        sum_falls c next gain (λ j. cond (nat_lt j next) (h j) (v j)) (λ j. cond (nat_lt j (suc next)) (k j) (v j)) lt
        (λ j l ne. ap (λ z. cond z (h j) (v j)) (later_turn next j ne) ∙ ap (λ z. cond (nat_lt j (suc next)) z (v j)) (same j l))
        (let x = unless (nat_lt next next) (h next) (v next) (le-ltb next next (omega arith)) in
        let y = when (nat_lt next (suc next)) (k next) (v next) (lt-ltb next (suc next) (omega arith)) in omega (arith, x, y, at))

    -- only the entry of an open container changes
    module _ (s : State Row Begun Decision Verdict) (k : Keeps m d so f sol s) (b : Busy m d so f sol s) (q : Rooted m d so f sol s) (n : ℕ)
        (i : List ℕ) (after : List Need) (w v : Opening Decision Verdict) (e : s.opens (address n i) ≡ Some w) where
      abbrev again : State Row Begun Decision Verdict
      again = record { rows = s.rows; running = s.running; opens = opened n i (Some v) s.opens }

      inner_same : (h : Graph) (j : List ℕ) → has h n ≡ false → left m f s h j ≡ left m f again h j
      inner_same h j nh = same_left m f s again h j (λ y wy. (
        refl,
        refl,
        unless (is_own n i y) (Some v) (s.opens y) (not_true (is_own n i y) (λ t.
            true≢false (sym (and_in (has h y.name) (starts j y.at) wy).0
            ∙ ap (λ z. has h z) (sym (eqb-true n y.name (and_in (nat_eq n y.name) (same_at i y.at) t).0)) ∙ nh))),
      ))

      begin_entry : (kind : Kind) → IsThere d m s n i after kind → holds kind n ≡ false → v.decision ≡ w.decision → v.next ≡ suc w.next
          → v.test ≡ None → Keeps m d so f sol again → kind_of d n ≡ Some kind → MayBegin m kind i w s.rows
          → left_in m f s kind n i w ≡ suc (left_in m f again kind n i v)
      begin_entry Leaf th nh sd sn st k' own may = absurd may
      begin_entry (Scope h) th nh sd sn st k' own may = absurd may
      begin_entry (Choice bs) th nh sd sn st k' own may = absurd may
      begin_entry (Foreach pace h) th nh sd sn st k' own may =
          let none = none_turn m d so f sol s b q n i after pace h w th e nh in
          let lt = first_lt pace may in
          let t = none_left m f s h (i ++ w.next ∷ []) none in let t' = inner_same h (i ++ w.next ∷ []) nh in
          let x = begin_sum (m.items w.decision) w.next 1 (λ j. left m f s h (i ++ j ∷ [])) (λ j. left m f again h (i ++ j ∷ []))
          (λ j. suc (total m f h (i ++ j ∷ []))) lt (λ j l. inner_same h (i ++ j ∷ []) nh) (omega (arith, t, t')) in
          let y = ap (λ z. sum (m.items z)
          (λ j. cond (nat_lt j v.next) (left m f again h (i ++ j ∷ [])) (suc (total m f h (i ++ j ∷ []))))) sd in
          let z = ap (λ z. sum (m.items w.decision)
          (λ j. cond (nat_lt j z) (left m f again h (i ++ j ∷ [])) (suc (total m f h (i ++ j ∷ []))))) sn in
          omega (arith, x, y, z)
        where
          first_lt : (pace : Pace) → MayBegin m (Foreach pace h) i w s.rows → w.next < m.items w.decision
          first_lt InTurn may = may.0
          first_lt (AtMost most) may = may.0
      begin_entry (Until most h) th nh sd sn st k' own may =
          let c = rounds most 0 (λ j. m.ends (m.test (address n i) j f)) in
          let none = none_round m d so f sol s b q n i after most h w th e nh in
          let fact = (k'.facts n i v (Until most h)
          (when (is_own n i (address n i)) (Some v) (s.opens (address n i)) (own_self n i)) own).1 in
          let le = begun_most most v.next (λ j. m.ends (m.test (address n i) j f)) fact.0 (λ j lt. (fact.1 j lt).0) in
          let t = none_left m f s h (i ++ w.next ∷ []) none in let t' = inner_same h (i ++ w.next ∷ []) nh in
          let x = begin_sum c w.next 2 (λ j. left m f s h (i ++ j ∷ [])) (λ j. left m f again h (i ++ j ∷ []))
          (λ j. suc (suc (total m f h (i ++ j ∷ [])))) (omega (arith, le, sn)) (λ j l. inner_same h (i ++ j ∷ []) nh)
          (omega (arith, t, t')) in
          let z = ap (λ z. sum c (λ j. cond (nat_lt j z) (left m f again h (i ++ j ∷ [])) (suc (suc (total m f h (i ++ j ∷ [])))))) sn in
          let y : untested w.next w.test ≡ 0 =
          ⊎_elim (λ o. ap (λ z. untested z w.test) o) (λ o. ap (λ z. untested w.next z) o.1 ∙ tested_none w.next o.0) may.1 in
          let y' : untested v.next v.test ≡ 1 = ap (λ z. untested z v.test) sn ∙ ap (λ z. untested (suc w.next) z) st in
          omega (arith, x, y, y', z)
        where
          tested_none : (j : ℕ) (p : Verdict) → untested j (Some p) ≡ 0
          tested_none zero p = refl
          tested_none (suc j) p = refl

      test_entry : (kind : Kind) (j : ℕ) (p : Verdict) → holds kind n ≡ false → v.decision ≡ w.decision → v.next ≡ w.next → v.test ≡ Some p
          → MayTest m kind i w s.rows j → left_in m f s kind n i w ≡ suc (left_in m f again kind n i v)
      test_entry Leaf j p nh sd sn st may = absurd may
      test_entry (Scope h) j p nh sd sn st may = absurd may
      test_entry (Choice bs) j p nh sd sn st may = absurd may
      test_entry (Foreach pace h) j p nh sd sn st may = absurd may
      test_entry (Until most h) j p nh sd sn st may =
          let c = rounds most 0 (λ j. m.ends (m.test (address n i) j f)) in
          let x = sum_same c (λ j. cond (nat_lt j w.next) (left m f s h (i ++ j ∷ [])) (suc (suc (total m f h (i ++ j ∷ [])))))
          (λ j. cond (nat_lt j w.next) (left m f again h (i ++ j ∷ [])) (suc (suc (total m f h (i ++ j ∷ [])))))
          (λ j l. ap (λ z. cond (nat_lt j w.next) z (suc (suc (total m f h (i ++ j ∷ []))))) (inner_same h (i ++ j ∷ []) nh)) in
          let z = ap (λ z. sum c (λ j. cond (nat_lt j z) (left m f again h (i ++ j ∷ [])) (suc (suc (total m f h (i ++ j ∷ [])))))) sn in
          let y : untested w.next w.test ≡ 1 = ap (λ z. untested z w.test) may.0 ∙ ap (λ z. untested (suc j) z) may.1 in
          let y' : untested v.next v.test ≡ 0 = ap (λ z. untested z v.test) (sn ∙ may.0) ∙ ap (λ z. untested (suc j) z) st in
          omega (arith, x, y, y', z)

    -- a container that closes has nothing left inside
    any_over : (s : State Row Begun Decision Verdict) (bs : Branches) (c : ℕ) (i : List ℕ)
        → ((g : Graph) → branch_at bs c ≡ Some g → is_ended g i s.rows ≡ true) → left_any m f s bs c i ≡ 0
    any_over s no_branch c i h = refl
    any_over s (branch x rest) c i h =
        ⊎_elim
        (λ t. when (is_one c) (left m f s x i) _ t ∙ ended_left m f s x i (h x (when (is_one c) (Some x) _ t)))
        (λ t. unless (is_one c) (left m f s x i) _ t ∙ any_over s rest (less_one c) i (λ g e. h g (unless (is_one c) (Some x) _ t ∙ e)))
        (two (is_one c))

    -- an open graph that is settled has ended
    pub settled_ended : (s : State Row Begun Decision Verdict) → Keeps m d so f sol s → (h : Graph) (i : List ℕ)
        → IsOpen m.taken d s.opens h i
        → Settled m f s.rows h i → is_ended h i s.rows ≡ true
    settled_ended s k h i og settled = walk h (λ n after kind st. st)
      where
        row_there : (n : ℕ) (after : List Need) (kind : Kind) → In h n after kind → (o : Option Row) → s.rows (address n i) ≡ o
            → has_ended (s.rows (address n i)) ≡ true
        row_there n after kind st (Some r) e = ap has_ended e
        row_there n after kind st None e =
            let pl = placed_in m d so f sol (length i) h n after kind (open_sub m d so f sol s.opens h i og) st in
            absurd (own_row m d so f sol s.rows s.opens k.facts h i n after kind og st
            (not_true (m.pinned n) (λ t. pinned_not t (s.opens (address n i)) refl))
            (sym (settled (address n i)
            (within_of m (IsBefore d) (SeenIn d) (length i) h n after kind pl i (address n i) (own_in n kind i))) ∙ e))
          where
            pinned_not : m.pinned n ≡ true → (o : Option (Opening Decision Verdict)) → s.opens (address n i) ≡ o → ⊥
            pinned_not t None q = k.special h i n after kind og st (ap (λ z. z || m.reclosed n) t) e q
            pinned_not t (Some w) q = true≢false (sym t ∙ (fact_of m d so f sol s.rows s.opens k.facts h i n after kind w og st q).0.free)

        walk : (r : Graph) → ((n : ℕ) (after : List Need) (kind : Kind) → In r n after kind → In h n after kind)
            → is_ended r i s.rows ≡ true
        walk done up = refl
        walk (add n after kind rest) up =
            and_of (has_ended (s.rows (address n i))) (is_ended rest i s.rows)
            (row_there n after kind (up n after kind here) (s.rows (address n i)) refl) (walk rest (λ q a x st. up q a x (there st)))

    close_entry : (s : State Row Begun Decision Verdict) → Keeps m d so f sol s → (n : ℕ) (i : List ℕ) (after : List Need) (kind : Kind)
        (w : Opening Decision Verdict) → IsThere d m s n i after kind → s.opens (address n i) ≡ Some w → MayClose m kind i w s.rows
        → left_in m f s kind n i w ≡ 1
    close_entry s k n i after Leaf w th e may = absurd may
    close_entry s k n i after (Scope h) w th e may = ap suc (ended_left m f s h i may)
    close_entry s k n i after (Choice bs) w th e may = ap suc (any_over s bs (m.taken w.decision) i may)
    close_entry s k n i after (Foreach pace h) w th e may =
        ap suc (sum_zero (m.items w.decision) (λ j. cond (nat_lt j w.next) (left m f s h (i ++ j ∷ [])) (suc (total m f h (i ++ j ∷ []))))
        (λ j lt.
        let l : j < w.next = let q = may.0 in omega (arith, lt, q) in
        when (nat_lt j w.next) (left m f s h (i ++ j ∷ [])) _ (lt-ltb j w.next l) ∙ ended_left m f s h (i ++ j ∷ []) (may.1 j l)))
    close_entry s k n i after (Until most h) w th e may =
        let x = sum_zero c (λ j. cond (nat_lt j w.next) (left m f s h (i ++ j ∷ [])) (suc (suc (total m f h (i ++ j ∷ []))))) (λ j lt.
        let l : j < w.next = omega (arith, lt, counts, last'.1) in
        when (nat_lt j w.next) (left m f s h (i ++ j ∷ [])) _ (lt-ltb j w.next l)
        ∙ ended_left m f s h (i ++ j ∷ []) (settled_ended s k h (i ++ j ∷ []) (round j th.is_open th.is_in e l) (turns j l))) in
        let y : untested w.next w.test ≡ 0 = ap (λ z. untested w.next z) may.1 ∙ tested_none w.next may.0 in
        omega (arith, x, y)
      where
        p : ℕ → Bool
        p j = m.ends (m.test (address n i) j f)

        c : ℕ
        c = rounds most 0 p

        fact : OpenFact m f s.rows (Until most h) n i w
        fact = (fact_of m d so f sol s.rows s.opens k.facts th.graph i n after (Until most h) w th.is_open th.is_in e).1

        last' : (j : ℕ) × (w.next ≡ suc j) × (m.test (address n i) j f ≡ may.0) × Settled m f s.rows h (i ++ j ∷ [])
        last' = fact.2 may.0 may.1

        counts : rounds most 0 p ≡ suc last'.0
        counts =
            rounds_is m d so f sol most 0 last'.0 p (λ q l. let x = last'.1 in (fact.1 q (omega (arith, x, l))).0) (omega arith)
            (let x = last'.1 in let y = fact.0 in omega (arith, x, y))
            (⊎_elim (λ t. inl (ap m.ends last'.2 ∙ t)) (λ t. inr (let x = last'.1 in omega (arith, x, t))) may.2)

        turns : (j : ℕ) → j < w.next → Settled m f s.rows h (i ++ j ∷ [])
        turns j l =
            ⊎_elim
            (λ same. subst (λ z. Settled m f s.rows h (i ++ z ∷ [])) (sym (eqb-true j last'.0 same)) last'.3)
            (λ ne. let z = eqb-false j last'.0 ne in let x = last'.1 in (fact.1 j (omega (arith, z, x, l))).1)
            (two (nat_eq j last'.0))

        tested_none : (j : ℕ) (p : Verdict) → untested j (Some p) ≡ 0
        tested_none zero p = refl
        tested_none (suc j) p = refl

    -- EACH EVENT TAKES ONE
    pub step_left : (s : State Row Begun Decision Verdict) (e : Event) (s' : State Row Begun Decision Verdict) → Keeps m d so f sol s
        → Busy m d so f sol s → Rooted m d so f sol s → Step d m s e s' → left m f s d [] ≡ suc (left m f s' d [])
    step_left s (Start n i) s' k b q (after, de, pass, to) =
        subst (λ z. left m f s d [] ≡ suc (left m f z d [])) (sym to)
        (event_falls s u k b n i after Leaf de.is_there
        (λ y off. (refl, placed_off (one n i w) s.running y (one_off n Leaf i w y off), refl))
        (let x = ran_entry s k b q n i after Leaf de pass ∙ ap (λ z. suc (suc (m.tries (address n i) z))) (sym begins) in
        omega (arith, x, runs)))
      where
        w : Running Begun
        w = record { begun = m.start (address n i) s.rows; tries = 0 }

        u : State Row Begun Decision Verdict
        u = record { rows = s.rows; running = place (one n i w) s.running; opens = s.opens }

        running_now : place (one n i w) s.running (address n i) ≡ Some w
        running_now = placed_one n i w s.running

        begins : m.start (address n i) s.rows ≡ m.start (address n i) f
        begins = ((step_keeps m d so f sol closed out s (Start n i) u k (after, de, pass, refl)).held (address n i) w running_now).as_begun

        runs : entry m f u n after Leaf i ≡ suc (m.tries (address n i) (m.start (address n i) s.rows) - 0)
        runs =
            by_run m f u (address n i) w (λ w. suc (m.tries (address n i) w.begun - w.tries)) (λ w. left_in m f u Leaf n i w)
            (total_of m f after n i (total_in m f Leaf n i)) de.no_row running_now
    step_left s (Try n i) s' k b q (w, e, lt, to) =
        let th = b.there' (address n i) (inl (w, e)) in let no_row = b.no_row (address n i) (inl (w, e)) in
        let x = by_run m f s (address n i) w (λ w. suc (m.tries (address n i) w.begun - w.tries)) (λ w. left_in m f s th.1 n i w)
        (total_of m f th.0 n i (total_in m f th.1 n i)) no_row e in
        let y = by_run m f u (address n i) v (λ w. suc (m.tries (address n i) w.begun - w.tries)) (λ w. left_in m f u th.1 n i w)
        (total_of m f th.0 n i (total_in m f th.1 n i)) no_row (placed_one n i v s.running) in
        subst (λ z. left m f s d [] ≡ suc (left m f z d [])) (sym to)
        (event_falls s u k b n i th.0 th.1 th.2 (λ y off. (refl, placed_off (one n i v) s.running y (one_off n th.1 i v y off), refl))
        (omega (arith, x, y, lt)))
      where
        v : Running Begun
        v = record { begun = w.begun; tries = suc w.tries }

        u : State Row Begun Decision Verdict
        u = record { rows = s.rows; running = place (one n i v) s.running; opens = s.opens }
    step_left s (End n i) s' k b q (w, e, all, to) =
        let th = b.there' (address n i) (inl (w, e)) in let no_row = b.no_row (address n i) (inl (w, e)) in
        let x = by_run m f s (address n i) w (λ w. suc (m.tries (address n i) w.begun - w.tries)) (λ w. left_in m f s th.1 n i w)
        (total_of m f th.0 n i (total_in m f th.1 n i)) no_row e in
        let y = by_row m f u (address n i) r (λ w. suc (m.tries (address n i) w.begun - w.tries)) (λ w. left_in m f u th.1 n i w)
        (total_of m f th.0 n i (total_in m f th.1 n i)) (placed_one n i r s.rows) in
        subst (λ z. left m f s d [] ≡ suc (left m f z d [])) (sym to)
        (event_falls s u k b n i th.0 th.1 th.2
        (λ y off. (
          placed_off (one n i r) s.rows y (one_off n th.1 i r y off),
          unless (is_own n i y) None (s.running y)
              (not_in_own n th.1 i y off),
          refl,
        )) (omega (arith, x, y, all)))
      where
        r : Row
        r = m.finish (address n i) w.begun s.rows

        u : State Row Begun Decision Verdict
        u = record { rows = place (one n i r) s.rows; running = without n i s.running; opens = s.opens }
    step_left s (Skip n i) s' k b q (after, kind, de, fails, to) =
        let x = decided_entry s b q n i after kind de ∙ plain_total after n i (total_in m f kind n i) (plain_there s k n i after kind de)
        ∙ unless (gate m after n i f) (total_in m f kind n i) 1 (sym (gate_there s k n i after kind de) ∙ fails) in
        let y = by_row m f u (address n i) m.skipped (λ w. suc (m.tries (address n i) w.begun - w.tries)) (λ w. left_in m f u kind n i w)
        (total_of m f after n i (total_in m f kind n i)) own in
        subst (λ z. left m f s d [] ≡ suc (left m f z d [])) (sym to)
        (event_falls s u k b n i after kind de.is_there (λ y off. (placed_off (skip m n kind i) s.rows y (skip_off y off), refl, refl))
        (omega (arith, x, y)))
      where
        u : State Row Begun Decision Verdict
        u = record { rows = place (skip m n kind i) s.rows; running = s.running; opens = s.opens }

        own : place (skip m n kind i) s.rows (address n i) ≡ Some m.skipped
        own =
            ap (λ o. or_else o (s.rows (address n i)))
            (when ((nat_eq n n || shows kind n) && same_at i i) (Some m.skipped) None
            (and_of (nat_eq n n || shows kind n) (same_at i i) (ap (λ z. z || shows kind n) (same_self n)) (same_self_at i)))

        skip_off : (y : Address) → is_in n kind i y ≡ false → skip m n kind i y ≡ None
        skip_off y off = go (skip m n kind i y) refl
          where
            go : (o : Option Row) → skip m n kind i y ≡ o → skip m n kind i y ≡ None
            go None e = e
            go (Some r) e =
                let q = skip_in m n kind i y r e in
                absurd (true≢false (sym
                (and_of (nat_eq n y.name || holds kind y.name) (starts i y.at)
                (either_or (nat_eq n y.name) (shows kind y.name) (nat_eq n y.name) (holds kind y.name) (λ x. x)
                (shows_holds kind y.name) q.0) (same_starts i y.at q.1)) ∙ off))
    step_left s (Open n i) s' k b q (after, kind, c, de, pass, to) =
        let idle = open_idle u k' b' (address n i) w now in
        let x = ran_entry s k b q n i after kind de pass in
        let y = by_open m f u (address n i) w (λ w. suc (m.tries (address n i) w.begun - w.tries)) (λ w. left_in m f u kind n i w)
        (total_of m f after n i (total_in m f kind n i)) idle.0 idle.1 now in
        let z = open_entry u k' n i after kind w c there' now refl inner in
        subst (λ z. left m f s d [] ≡ suc (left m f z d [])) (sym to)
        (event_falls s u k b n i after kind de.is_there
        (λ y off. (
          placed_off new s.rows y (over_off y off),
          refl,
          unless (is_own n i y) (Some w) (s.opens y)
              (not_in_own n kind i y off),
        )) (omega (arith, x, y, z)))
      where
        w : Opening Decision Verdict
        w = record { decision = m.decide (address n i) s.rows; next = 0; test = None }

        new : Table Row
        new = passed_over m kind (m.taken (m.decide (address n i) s.rows)) i

        u : State Row Begun Decision Verdict
        u = record { rows = place new s.rows; running = s.running; opens = opened n i (Some w) s.opens }

        k' : Keeps m d so f sol u
        k' = step_keeps m d so f sol closed out s (Open n i) u k (after, kind, c, de, pass, refl)

        b' : Busy m d so f sol u
        b' = step_busy m d so f sol out s (Open n i) u k b (after, kind, c, de, pass, refl)

        now : opened n i (Some w) s.opens (address n i) ≡ Some w
        now = when (is_own n i (address n i)) (Some w) (s.opens (address n i)) (own_self n i)

        there' : IsThere d m u n i after kind
        there' =
            record {
              graph = de.is_there.graph;
              is_open =
                  open_mono m d so f sol s.opens (opened n i (Some w) s.opens)
                  (λ x v e. unless (is_own n i x) (Some w) (s.opens x)
                  (not_true (is_own n i x) (λ t. none-some v (sym de.not_open ∙ ap s.opens (own_is n i x t) ∙ e)))
                  ∙ e) de.is_there.graph i de.is_there.is_open;
              is_in = de.is_there.is_in;
            }

        over_off : (y : Address) → is_in n kind i y ≡ false → new y ≡ None
        over_off y off = go kind off
          where
            others : (bs : Branches) → is_in n (Choice bs) i y ≡ false → (o : Option Row)
                → skip_others m bs (m.taken (m.decide (address n i) s.rows)) i y ≡ o
                → skip_others m bs (m.taken (m.decide (address n i) s.rows)) i y ≡ None
            others bs off None e = e
            others bs off (Some r) e =
                absurd (true≢false (sym
                (held_in n (Choice bs) i y
                (others_among bs (m.taken (m.decide (address n i) s.rows)) i y
                (some_others m bs (m.taken (m.decide (address n i) s.rows)) i y r e))) ∙ off))

            go : (kind : Kind) → is_in n kind i y ≡ false → passed_over m kind (m.taken (m.decide (address n i) s.rows)) i y ≡ None
            go Leaf off = refl
            go (Scope g) off = refl
            go (Choice bs) off = others bs off (skip_others m bs (m.taken (m.decide (address n i) s.rows)) i y) refl
            go (Foreach pace g) off = refl
            go (Until most g) off = refl

        inner : (y : Address) → (holds kind y.name && starts i y.at) ≡ true → new y ≡ None
            → (u.rows y ≡ None) × (u.running y ≡ None) × (u.opens y ≡ None)
        inner y h none =
            let z = none_in m d so f sol s b q n i after kind de y (held_in n kind i y h) in
            let pl = placed_in m d so f sol (length i) de.is_there.graph n after kind
            (open_sub m d so f sol s.opens de.is_there.graph i de.is_there.is_open) de.is_there.is_in in (
              placed_off new s.rows y none
                  ∙ z.0,
              z.1,
              unless (is_own n i y) (Some w) (s.opens y)
                  (inner_not_own n kind i y pl.apart_own (and_in (holds kind y.name) (starts i y.at) h).0) ∙ z.2,
            )
    step_left s (Begin n i) s' k b q (after, kind, w, th, e, may, to) =
        let idle = open_idle s k b (address n i) w e in
        let x = by_open m f s (address n i) w (λ w. suc (m.tries (address n i) w.begun - w.tries)) (λ w. left_in m f s kind n i w)
        (total_of m f after n i (total_in m f kind n i)) idle.0 idle.1 e in
        let y = by_open m f u (address n i) v (λ w. suc (m.tries (address n i) w.begun - w.tries)) (λ w. left_in m f u kind n i w)
        (total_of m f after n i (total_in m f kind n i)) idle.0 idle.1
        (when (is_own n i (address n i)) (Some v) (s.opens (address n i)) (own_self n i)) in
        let pl = placed_in m d so f sol (length i) th.graph n after kind (open_sub m d so f sol s.opens th.graph i th.is_open) th.is_in in
        let z = begin_entry s k b q n i after w v e kind th pl.apart_own refl refl refl
        (step_keeps m d so f sol closed out s (Begin n i) u k (after, kind, w, th, e, may, refl))
        (kind_there m d so f sol s.opens th.graph i n after kind th.is_open th.is_in).0 may in
        subst (λ z. left m f s d [] ≡ suc (left m f z d [])) (sym to)
        (event_falls s u k b n i after kind th
        (λ y off. (refl, refl, unless (is_own n i y) (Some v) (s.opens y) (not_in_own n kind i y off))) (omega (arith, x, y, z)))
      where
        v : Opening Decision Verdict
        v = record { decision = w.decision; next = suc w.next; test = None }

        u : State Row Begun Decision Verdict
        u = record { rows = s.rows; running = s.running; opens = opened n i (Some v) s.opens }
    step_left s (Test n i) s' k b q (after, kind, w, j, th, e, may, to) =
        let idle = open_idle s k b (address n i) w e in
        let x = by_open m f s (address n i) w (λ w. suc (m.tries (address n i) w.begun - w.tries)) (λ w. left_in m f s kind n i w)
        (total_of m f after n i (total_in m f kind n i)) idle.0 idle.1 e in
        let y = by_open m f u (address n i) v (λ w. suc (m.tries (address n i) w.begun - w.tries)) (λ w. left_in m f u kind n i w)
        (total_of m f after n i (total_in m f kind n i)) idle.0 idle.1
        (when (is_own n i (address n i)) (Some v) (s.opens (address n i)) (own_self n i)) in
        let pl = placed_in m d so f sol (length i) th.graph n after kind (open_sub m d so f sol s.opens th.graph i th.is_open) th.is_in in
        let z = test_entry s k b q n i after w v e kind j (m.test (address n i) j s.rows) pl.apart_own refl refl refl may in
        subst (λ z. left m f s d [] ≡ suc (left m f z d [])) (sym to)
        (event_falls s u k b n i after kind th
        (λ y off. (refl, refl, unless (is_own n i y) (Some v) (s.opens y) (not_in_own n kind i y off))) (omega (arith, x, y, z)))
      where
        v : Opening Decision Verdict
        v = record { decision = w.decision; next = w.next; test = Some (m.test (address n i) j s.rows) }

        u : State Row Begun Decision Verdict
        u = record { rows = s.rows; running = s.running; opens = opened n i (Some v) s.opens }
    step_left s (Close n i) s' k b q (after, kind, w, th, e, may, to) =
        let idle = open_idle s k b (address n i) w e in
        let x = by_open m f s (address n i) w (λ w. suc (m.tries (address n i) w.begun - w.tries)) (λ w. left_in m f s kind n i w)
        (total_of m f after n i (total_in m f kind n i)) idle.0 idle.1 e in
        let y = by_row m f u (address n i) r (λ w. suc (m.tries (address n i) w.begun - w.tries)) (λ w. left_in m f u kind n i w)
        (total_of m f after n i (total_in m f kind n i)) (placed_one n i r s.rows) in
        let z = close_entry s k n i after kind w th e may in
        subst (λ z. left m f s d [] ≡ suc (left m f z d [])) (sym to)
        (event_falls s u k b n i after kind th
        (λ y off. (
          placed_off (one n i r) s.rows y (one_off n kind i r y off),
          refl,
          unless (is_own n i y) None (s.opens y)
              (not_in_own n kind i y off),
        )) (omega (arith, x, y, z)))
      where
        r : Row
        r = closing m kind (address n i) w s.rows

        u : State Row Begun Decision Verdict
        u = record { rows = place (one n i r) s.rows; running = s.running; opens = opened n i None s.opens }

    pub run_left : (s : State Row Begun Decision Verdict) (es : List Event) (s' : State Row Begun Decision Verdict) → Keeps m d so f sol s
        → Busy m d so f sol s → Rooted m d so f sol s → Run d m s es s' → length es + left m f s' d [] ≡ left m f s d []
    run_left s [] s' k b q r = let x = ap (λ z. left m f z d []) r in omega (arith, x)
    run_left s (e ∷ es) s' k b q (mid, st, rest) =
        let x = step_left s e mid k b q st in
        let y = run_left mid es s' (step_keeps m d so f sol closed out s e mid k st) (step_busy m d so f sol out s e mid k b st)
        (step_rooted m d so f sol s e mid b q st) rest in
        omega (arith, x, y)
