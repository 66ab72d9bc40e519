-- What is round a finished row is open or finished, and a loop has rows in begun iterations alone.
use Rattle.std.proofs.Common.{◌≡◌, ℕ, suc, ◌<◌, ◌≤◌, true, false, ◌&&◌, ◌||◌, cond, List, [], ◌∷◌, ◌++◌, Option, Some, None, ◌⊎◌, inl, inr, ⊎_elim, refl, sym, ap, ◌∙◌, subst, arith, nat_eq, eq-eqb, eqb-true, true≢false, length}
use Rattle.std.proofs.lemmas.Option.{none-some}
use Rattle.wf_layers.specs.Definition.{Need, Pace, Kind, Leaf, Scope, Choice, Foreach, Until, Branches, no_branch, branch, Graph, is_one, less_one, branch_at, holds, has, has_any, shows, kind_of}
use Rattle.wf_layers.specs.Address.{Address, address, Table, same_at, starts, is_own, is_in, is_within, SeenIn}
use Rattle.wf_layers.specs.Source.{Source, SoundAny, Sound}
use Rattle.wf_layers.specs.Meaning.{skip}
use Rattle.wf_layers.specs.Rule.{Obeys}
use Rattle.wf_layers.specs.Facts.{IsBusy, IsRooted, finished, passed, in_scope, in_branch, in_turn, in_round}
use Rattle.wf_layers.proofs.Basics.{two, and_in, and_of, apart, not_true, same_self, same_self_at, when, unless, in_within, rest_within, own_in, held_in, outer_of}
use Rattle.wf_layers.specs.Machine.{Running, Opening, State, In, here, there, IsOpen, top, scope, chosen, turn, round, or_else, place, one, opened, Event, Start, Try, End, Skip, Open, Begin, Test, Close, in_others, passed_over, closing, IsThere, IsDecided, Step, Run}
use Rattle.wf_layers.proofs.Tables.{own_is, own_self, one_is, place_split, same_starts, skip_in, shows_holds, either_or, taken_within}
use Rattle.wf_layers.proofs.Others.{others_among, some_others}
use Rattle.wf_layers.proofs.Open.{open_sub, placed_in, outer, turn_of}
use Rattle.wf_layers.proofs.Keeps.{Keeps, IsClosed, SpecialOut}
use Rattle.wf_layers.proofs.Events.{step_keeps}
use Rattle.wf_layers.proofs.Busy.{Busy, open_grows, step_busy}

pub in_graph : (g : Graph) (n : ℕ) (after : List Need) (kind : Kind) → In g n after kind → (i : List ℕ) (y : Address)
    → is_in n kind i y ≡ true → is_within g i y ≡ true
in_graph _ n after kind (here {rest = rest}) i y e = in_within n after kind rest i y e
in_graph _ n after kind (there {m = q} {before = before} {other = other} {rest = rest} st) i y e =
    rest_within q before other rest i y (in_graph rest n after kind st i y e)

pub placed_grows : {A : Type 0} (new t : Table A) (x : Address) (r : A) → t x ≡ Some r → (q : A) × (place new t x ≡ Some q)
placed_grows {A} new t x r e = go (new x) refl
  where
    go : (o : Option A) → new x ≡ o → (q : A) × (place new t x ≡ Some q)
    go None h = (r, ap (λ o. or_else o (t x)) h ∙ e)
    go (Some q) h = (q, ap (λ o. or_else o (t x)) h)

pub placed_one : {A : Type 0} (n : ℕ) (i : List ℕ) (r : A) (t : Table A) → place (one n i r) t (address n i) ≡ Some r
placed_one n i r t = ap (λ o. or_else o (t (address n i))) (when (is_own n i (address n i)) (Some r) None (own_self n i))

module _ {Row Decision Verdict : Type 0} (taken : Decision → ℕ) where
  module _ (t : Table Row) (o : Table (Opening Decision Verdict)) (y : Address) where
    pub rooted_within : (g : Graph) (i : List ℕ) → IsRooted taken t o y g i → is_within g i y ≡ true
    rooted_within _ _ (finished {g = g} {i = i} {n = n} {after = after} {kind = kind} st e w) = in_graph g n after kind st i y w
    rooted_within _ _ (passed {g = g} {i = i} {n = n} {after = after} {bs = bs} {w = w} st e h) =
        in_graph g n after (Choice bs) st i y (held_in n (Choice bs) i y (others_among bs (taken w.decision) i y h))
    rooted_within _ _ (in_scope {g = g} {h = h} {i = i} {n = n} {after = after} st e r) =
        in_graph g n after (Scope h) st i y (held_in n (Scope h) i y (rooted_within h i r))
    rooted_within _ _ (in_branch {g = g} {b = b} {i = i} {n = n} {after = after} {bs = bs} {w = w} st e is r) =
        in_graph g n after (Choice bs) st i y
        (held_in n (Choice bs) i y (taken_within b bs (taken w.decision) is i y (rooted_within b i r)))
    rooted_within _ _ (in_turn {g = g} {h = h} {i = i} {n = n} {after = after} {pace = pace} j st e lt r) =
        in_graph g n after (Foreach pace h) st i y (held_in n (Foreach pace h) i y (outer_of h i j y (rooted_within h (i ++ j ∷ []) r)))
    rooted_within _ _ (in_round {g = g} {h = h} {i = i} {n = n} {most = most} {after = after} j st e lt r) =
        in_graph g n after (Until most h) st i y (held_in n (Until most h) i y (outer_of h i j y (rooted_within h (i ++ j ∷ []) r)))

    -- from an open graph to the whole definition
    pub root : (d g : Graph) (i : List ℕ) → IsOpen taken d o g i → IsRooted taken t o y g i → IsRooted taken t o y d []
    root d _ _ top = λ r. r
    root d _ i (scope {g = g} og st e) = λ r. root d g i og (in_scope st e r)
    root d _ i (chosen {g = g} og st e is) = λ r. root d g i og (in_branch st e is r)
    root d _ _ (turn {g = g} {i = i} j og st e lt) = λ r. root d g i og (in_turn j st e lt r)
    root d _ _ (round {g = g} {i = i} j og st e lt) = λ r. root d g i og (in_round j st e lt r)

    -- in the action of the graph that has it: that is finished, or open
    abbrev pub Inner : Kind → List ℕ → Opening Decision Verdict → Type 0
    Inner Leaf i w = ⊥
    Inner (Scope h) i w = IsRooted taken t o y h i
    Inner (Choice bs) i w =
        (in_others bs (taken w.decision) i y ≡ true) ⊎ ((b : Graph) × (branch_at bs (taken w.decision) ≡ Some b) × IsRooted taken t o y b i)
    Inner (Foreach pace h) i w = (j : ℕ) × (j < w.next) × IsRooted taken t o y h (i ++ j ∷ [])
    Inner (Until most h) i w = (j : ℕ) × (j < w.next) × IsRooted taken t o y h (i ++ j ∷ [])

    abbrev pub Found : Graph → List ℕ → Type 0
    Found g i =
        (n : ℕ) × (after : List Need) × (kind : Kind) × In g n after kind × (is_in n kind i y ≡ true)
        × (((r : Row) × (t (address n i) ≡ Some r)) ⊎ ((w : Opening Decision Verdict) × (o (address n i) ≡ Some w) × Inner kind i w))

    pub found : (g : Graph) (i : List ℕ) → IsRooted taken t o y g i → Found g i
    found _ _ (finished {g = g} {i = i} {n = n} {after = after} {kind = kind} {r = r} st e w) = (n, after, kind, st, w, inl (r, e))
    found _ _ (passed {g = g} {i = i} {n = n} {after = after} {bs = bs} {w = w} st e h) =
        (n, after, Choice bs, st, held_in n (Choice bs) i y (others_among bs (taken w.decision) i y h), inr (w, e, inl h))
    found _ _ (in_scope {g = g} {h = h} {i = i} {n = n} {after = after} {w = w} st e r) =
        (n, after, Scope h, st, held_in n (Scope h) i y (rooted_within h i r), inr (w, e, r))
    found _ _ (in_branch {g = g} {b = b} {i = i} {n = n} {after = after} {bs = bs} {w = w} st e is r) = (
      n,
      after,
      Choice bs,
      st,
      held_in n (Choice bs) i y (taken_within b bs (taken w.decision) is i y (rooted_within b i r)),
      inr (w, e, inr (b, is, r)),
    )
    found _ _ (in_turn {g = g} {h = h} {i = i} {n = n} {after = after} {pace = pace} {w = w} j st e lt r) = (
      n,
      after,
      Foreach pace h,
      st,
      held_in n (Foreach pace h) i y (outer_of h i j y (rooted_within h (i ++ j ∷ []) r)),
      inr (w, e, (j, lt, r)),
    )
    found _ _ (in_round {g = g} {h = h} {i = i} {n = n} {most = most} {after = after} {w = w} j st e lt r) = (
      n,
      after,
      Until most h,
      st,
      held_in n (Until most h) i y (outer_of h i j y (rooted_within h (i ++ j ∷ []) r)),
      inr (w, e, (j, lt, r)),
    )

  -- with more rows, more begun, and only what has a row closed
  module _ (t u : Table Row) (o v : Table (Opening Decision Verdict)) (y : Address)
      (rows : (x : Address) (q : Row) → t x ≡ Some q → (r : Row) × (u x ≡ Some r))
      (opens : (x : Address) (w : Opening Decision Verdict) → o x ≡ Some w
      → ((r : Row) × (u x ≡ Some r))
      ⊎ ((z : Opening Decision Verdict) × (v x ≡ Some z) × (z.decision ≡ w.decision) × (w.next ≤ z.next))) where
    pub rooted_grows : (g : Graph) (i : List ℕ) → IsRooted taken t o y g i → IsRooted taken u v y g i
    rooted_grows _ _ (finished {i = i} {n = n} {r = r} st e w) = finished st (rows (address n i) r e).1 w
    rooted_grows _ _ (passed {i = i} {n = n} {bs = bs} {w = w} st e h) =
        ⊎_elim
        (λ q. finished st q.1 (held_in n (Choice bs) i y (others_among bs (taken w.decision) i y h)))
        (λ q. passed st q.1 (ap (λ p. in_others bs (taken p) i y) q.2 ∙ h))
        (opens (address n i) w e)
    rooted_grows _ _ (in_scope {h = h} {i = i} {n = n} {w = w} st e r) =
        ⊎_elim
        (λ q. finished st q.1 (held_in n (Scope h) i y (rooted_within t o y h i r)))
        (λ q. in_scope st q.1 (rooted_grows h i r))
        (opens (address n i) w e)
    rooted_grows _ _ (in_branch {b = b} {i = i} {n = n} {bs = bs} {w = w} st e is r) =
        ⊎_elim
        (λ q. finished st q.1 (held_in n (Choice bs) i y (taken_within b bs (taken w.decision) is i y (rooted_within t o y b i r))))
        (λ q. in_branch st q.1 (ap (λ p. branch_at bs (taken p)) q.2 ∙ is) (rooted_grows b i r))
        (opens (address n i) w e)
    rooted_grows _ _ (in_turn {h = h} {i = i} {n = n} {pace = pace} {w = w} j st e lt r) =
        ⊎_elim
        (λ q. finished st q.1 (held_in n (Foreach pace h) i y (outer_of h i j y (rooted_within t o y h (i ++ j ∷ []) r))))
        (λ q. let le = q.3 in in_turn j st q.1 (omega (arith, le, lt)) (rooted_grows h (i ++ j ∷ []) r))
        (opens (address n i) w e)
    rooted_grows _ _ (in_round {h = h} {i = i} {n = n} {most = most} {w = w} j st e lt r) =
        ⊎_elim
        (λ q. finished st q.1 (held_in n (Until most h) i y (outer_of h i j y (rooted_within t o y h (i ++ j ∷ []) r))))
        (λ q. let le = q.3 in in_round j st q.1 (omega (arith, le, lt)) (rooted_grows h (i ++ j ∷ []) r))
        (opens (address n i) w e)

module _ {Row Begun Decision Verdict : Type 0} (m : Source Row Begun Decision Verdict) (d : Graph) (so : Sound m (SeenIn d) d 0)
    (f : Table Row) (sol : Obeys m d f) where
  abbrev pub Rooted : State Row Begun Decision Verdict → Type 0
  Rooted s = (y : Address) (r : Row) → s.rows y ≡ Some r → IsRooted m.taken s.rows s.opens y d []

  -- of the actions of an open graph one has the address
  pub same_action : (o : Table (Opening Decision Verdict)) (g : Graph) (i : List ℕ) → IsOpen m.taken d o g i
      → (n q : ℕ) (after before : List Need) (kind other : Kind) → In g n after kind → In g q before other → (y : Address)
      → is_in n kind i y ≡ true → is_in q other i y ≡ true → (q ≡ n) × (other ≡ kind)
  same_action o g i og n q after before kind other st su y inn inq =
      let sub = open_sub m d so f sol o g i og in
      let pn = placed_in m d so f sol (length i) g n after kind sub st in
      let pq = placed_in m d so f sol (length i) g q before other sub su in
      let v : Some q ≡ Some n = sym (pq.owned i y inq) ∙ pn.owned i y inn in let is : q ≡ n = cc in
      let u : Some other ≡ Some kind = sym pq.own_kind ∙ ap (λ x. kind_of g x) is ∙ pn.own_kind in
      (is, cc)

  -- in an open action
  pub inner_of : {R : Type 0} (t : Table R) (o : Table (Opening Decision Verdict)) (g : Graph) (i : List ℕ) → IsOpen m.taken d o g i
      → (n : ℕ) (after : List Need) (kind : Kind) (w : Opening Decision Verdict) → In g n after kind → o (address n i) ≡ Some w
      → t (address n i) ≡ None → (y : Address) → is_in n kind i y ≡ true → IsRooted m.taken t o y g i → Inner m.taken t o y kind i w
  inner_of t o g i og n after kind w st e none y iny r =
      let z = found m.taken t o y g i r in
      let same = same_action o g i og n z.0 after z.1 kind z.2 st z.3 y iny z.4 in
      ⊎_elim
      (λ q. absurd (none-some q.0 (sym none ∙ ap (λ x. t (address x i)) (sym same.0) ∙ q.1)))
      (λ q. let v : Some q.0 ≡ Some w = sym q.1 ∙ ap (λ x. o (address x i)) same.0 ∙ e in let is : q.0 ≡ w = cc in
      subst (λ k. Inner m.taken t o y k i w) same.1 (subst (λ x. Inner m.taken t o y z.2 i x) is q.2))
      z.5

  -- an address of the taken branch is in no other
  pub taken_not_others : (bs : Branches) (l c : ℕ) (b : Graph) → SoundAny m (SeenIn d) bs l → branch_at bs c ≡ Some b
      → (i : List ℕ) (y : Address) → in_others bs c i y ≡ true → is_within b i y ≡ true → ⊥
  taken_not_others no_branch l c b so' e i y h w = none-some b e
  taken_not_others (branch a rest) l c b so' e i y h w =
      ⊎_elim
      (λ t. let same : Some a ≡ Some b = sym (when (is_one c) (Some a) _ t) ∙ e in let is : a ≡ b = cc in
      let wa = subst (λ g. is_within g i y ≡ true) (sym is) w in
      true≢false (sym h ∙ when (is_within a i y) (cond (is_one c) false true) _ wa ∙ when (is_one c) false true t))
      (λ u. let e' = sym (unless (is_one c) (Some a) _ u) ∙ e in
      let na = apart (has a y.name) (has_any rest y.name) (starts i y.at) (so'.0 y.name) (taken_within b rest (less_one c) e' i y w) in
      taken_not_others rest l (less_one c) b so'.2 e' i y (sym (unless (is_within a i y) (cond (is_one c) false true) _ na) ∙ h) w)
      (two (is_one c))

  -- open containers, but for that of y, have no entry
  abbrev pub Free : {R : Type 0} → Table R → Table (Opening Decision Verdict) → Address → Type 0
  Free t o y =
      (n : ℕ) (i : List ℕ) (w : Opening Decision Verdict) → o (address n i) ≡ Some w → nat_eq n y.name ≡ false → t (address n i) ≡ None

  other_name : (kind : Kind) (n : ℕ) (y : Address) → holds kind n ≡ false → holds kind y.name ≡ true → nat_eq n y.name ≡ false
  other_name kind n y nh h = not_true (nat_eq n y.name) (λ t. true≢false (sym h ∙ ap (λ z. holds kind z) (sym (eqb-true n y.name t)) ∙ nh))

  -- from the whole definition to an open graph
  pub rooted_in : {R : Type 0} (t : Table R) (o : Table (Opening Decision Verdict)) (y : Address) → Free t o y → (g : Graph) (i : List ℕ)
      → IsOpen m.taken d o g i → is_within g i y ≡ true → IsRooted m.taken t o y d [] → IsRooted m.taken t o y g i
  rooted_in t o y fr _ _ top = λ wy r. r
  rooted_in t o y fr _ i (scope {g = g} {h = h} {n = n} {after = after} {w = w} og st e) = λ wy r.
      let inn = held_in n (Scope h) i y wy in
      let pl = placed_in m d so f sol (length i) g n after (Scope h) (open_sub m d so f sol o g i og) st in
      inner_of t o g i og n after (Scope h) w st e
      (fr n i w e (other_name (Scope h) n y pl.apart_own (and_in (has h y.name) (starts i y.at) wy).0)) y inn
      (rooted_in t o y fr g i og (in_graph g n after (Scope h) st i y inn) r)
  rooted_in t o y fr _ i (chosen {g = g} {b = x} {n = n} {after = after} {bs = bs} {w = w} og st e is) = λ wy r.
      let wa = taken_within x bs (m.taken w.decision) is i y wy in
      let inn = held_in n (Choice bs) i y wa in
      let pl = placed_in m d so f sol (length i) g n after (Choice bs) (open_sub m d so f sol o g i og) st in
      ⊎_elim
      (λ q. absurd (taken_not_others bs (length i) (m.taken w.decision) x pl.sound.2 is i y q wy))
      (λ q. let v : Some q.0 ≡ Some x = sym q.1 ∙ is in let same : q.0 ≡ x = cc in subst (λ z. IsRooted m.taken t o y z i) same q.2)
      (inner_of t o g i og n after (Choice bs) w st e
      (fr n i w e (other_name (Choice bs) n y pl.apart_own (and_in (has_any bs y.name) (starts i y.at) wa).0)) y inn
      (rooted_in t o y fr g i og (in_graph g n after (Choice bs) st i y inn) r))
  rooted_in t o y fr _ _ (turn {g = g} {h = h} {i = i} {n = n} {after = after} {pace = pace} {w = w} j og st e lt) = λ wy r.
      let wo = outer m d so f sol h i j y wy in
      let inn = held_in n (Foreach pace h) i y wo in
      let pl = placed_in m d so f sol (length i) g n after (Foreach pace h) (open_sub m d so f sol o g i og) st in
      let q = inner_of t o g i og n after (Foreach pace h) w st e
      (fr n i w e (other_name (Foreach pace h) n y pl.apart_own (and_in (has h y.name) (starts i y.at) wo).0)) y inn
      (rooted_in t o y fr g i og (in_graph g n after (Foreach pace h) st i y inn) r) in
      let same = turn_of m d so f sol h i q.0 j y (rooted_within m.taken t o y h (i ++ q.0 ∷ []) q.2) wy in
      subst (λ z. IsRooted m.taken t o y h (i ++ z ∷ [])) same q.2
  rooted_in t o y fr _ _ (round {g = g} {h = h} {i = i} {n = n} {most = most} {after = after} {w = w} j og st e lt) = λ wy r.
      let wo = outer m d so f sol h i j y wy in
      let inn = held_in n (Until most h) i y wo in
      let pl = placed_in m d so f sol (length i) g n after (Until most h) (open_sub m d so f sol o g i og) st in
      let q = inner_of t o g i og n after (Until most h) w st e
      (fr n i w e (other_name (Until most h) n y pl.apart_own (and_in (has h y.name) (starts i y.at) wo).0)) y inn
      (rooted_in t o y fr g i og (in_graph g n after (Until most h) st i y inn) r) in
      let same = turn_of m d so f sol h i q.0 j y (rooted_within m.taken t o y h (i ++ q.0 ∷ []) q.2) wy in
      subst (λ z. IsRooted m.taken t o y h (i ++ z ∷ [])) same q.2

  free_rows : (s : State Row Begun Decision Verdict) → Busy m d so f sol s → (y : Address) → Free s.rows s.opens y
  free_rows s b y n i w e ne = b.no_row (address n i) (inr (w, e))

  -- what is busy is rooted, too
  busy_rooted : (s : State Row Begun Decision Verdict) → Busy m d so f sol s → (y : Address) → IsBusy s y
      → IsRooted m.taken (one y.name y.at true) s.opens y d []
  busy_rooted s b y busy =
      let th = b.there' y busy in
      root m.taken (one y.name y.at true) s.opens y d th.2.graph y.at th.2.is_open
      (finished th.2.is_in (when (is_own y.name y.at y) (Some true) None (own_self y.name y.at)) (own_in y.name th.1 y.at))

  free_one : (o : Table (Opening Decision Verdict)) (y : Address) → Free (one y.name y.at true) o y
  free_one o y n i w e ne =
      unless (is_own y.name y.at (address n i)) (Some true) None
      (not_true (is_own y.name y.at (address n i))
      (λ t. true≢false (sym (eq-eqb n y.name (sym (eqb-true y.name n (and_in (nat_eq y.name n) (same_at y.at i) t).0))) ∙ ne)))

  -- at an action that isn't open and has no entry, and in an open one
  not_rooted : {R : Type 0} (t : Table R) (o : Table (Opening Decision Verdict)) (y : Address) → Free t o y
      → (g : Graph) (i : List ℕ) (n : ℕ) (after : List Need) (kind : Kind) → IsOpen m.taken d o g i → In g n after kind
      → t (address n i) ≡ None → o (address n i) ≡ None → is_in n kind i y ≡ true → IsRooted m.taken t o y d [] → ⊥
  not_rooted t o y fr g i n after kind og st no_row not_open iny r =
      let z = found m.taken t o y g i (rooted_in t o y fr g i og (in_graph g n after kind st i y iny) r) in
      let same = same_action o g i og n z.0 after z.1 kind z.2 st z.3 y iny z.4 in
      ⊎_elim
      (λ q. none-some q.0 (sym (ap (λ x. t (address x i)) same.0 ∙ no_row) ∙ q.1))
      (λ q. none-some q.0 (sym (ap (λ x. o (address x i)) same.0 ∙ not_open) ∙ q.1))
      z.5

  in_open : {R : Type 0} (t : Table R) (o : Table (Opening Decision Verdict)) (y : Address) → Free t o y
      → (g : Graph) (i : List ℕ) (n : ℕ) (after : List Need) (kind : Kind) (w : Opening Decision Verdict) → IsOpen m.taken d o g i
      → In g n after kind → o (address n i) ≡ Some w → t (address n i) ≡ None → is_in n kind i y ≡ true → IsRooted m.taken t o y d []
      → Inner m.taken t o y kind i w
  in_open t o y fr g i n after kind w og st e none iny r =
      inner_of t o g i og n after kind w st e none y iny (rooted_in t o y fr g i og (in_graph g n after kind st i y iny) r)

  -- nothing is at y
  abbrev pub NoneAt : State Row Begun Decision Verdict → Address → Type 0
  NoneAt s y = (s.rows y ≡ None) × (s.running y ≡ None) × (s.opens y ≡ None)

  -- where neither a row nor a busy instance can be
  none_at : (s : State Row Begun Decision Verdict) → Busy m d so f sol s → Rooted s → (y : Address)
      → (IsRooted m.taken s.rows s.opens y d [] → ⊥) → (IsRooted m.taken (one y.name y.at true) s.opens y d [] → ⊥) → NoneAt s y
  none_at s b k y no_row not_busy = (at_rows (s.rows y) refl, at_running (s.running y) refl, at_opens (s.opens y) refl)
    where
      at_rows : (x : Option Row) → s.rows y ≡ x → s.rows y ≡ None
      at_rows None e = e
      at_rows (Some r) e = absurd (no_row (k y r e))

      at_running : (x : Option (Running Begun)) → s.running y ≡ x → s.running y ≡ None
      at_running None e = e
      at_running (Some w) e = absurd (not_busy (busy_rooted s b y (inl (w, e))))

      at_opens : (x : Option (Opening Decision Verdict)) → s.opens y ≡ x → s.opens y ≡ None
      at_opens None e = e
      at_opens (Some w) e = absurd (not_busy (busy_rooted s b y (inr (w, e))))

  -- so nothing is in a decided action
  pub none_in : (s : State Row Begun Decision Verdict) → Busy m d so f sol s → Rooted s
      → (n : ℕ) (i : List ℕ) (after : List Need) (kind : Kind) → IsDecided d m s n i after kind → (y : Address) → is_in n kind i y ≡ true
      → NoneAt s y
  none_in s b k n i after kind de y iny =
      ⊎_elim
      (λ own. let is : address n i ≡ y = own_is n i y own in
      (ap s.rows (sym is) ∙ de.no_row, ap s.running (sym is) ∙ de.not_running, ap s.opens (sym is) ∙ de.not_open))
      (λ other. none_at s b k y
      (λ r. not_rooted s.rows s.opens y (free_rows s b y) th.graph i n after kind th.is_open th.is_in de.no_row de.not_open iny r)
      (λ r. not_rooted (one y.name y.at true) s.opens y (free_one s.opens y) th.graph i n after kind th.is_open th.is_in
      (other_entry other) de.not_open iny r))
      (two (is_own n i y))
    where
      th : IsThere d m s n i after kind
      th = de.is_there

      other_entry : is_own n i y ≡ false → one y.name y.at true (address n i) ≡ None
      other_entry u =
          unless (is_own y.name y.at (address n i)) (Some true) None
          (not_true (is_own y.name y.at (address n i))
          (λ t. true≢false (sym (ap (λ (z : Address). is_own n i z) (own_is y.name y.at (address n i) t) ∙ own_self n i) ∙ u)))

  -- nor is a row in a leaf that runs
  pub none_in_leaf : (s : State Row Begun Decision Verdict) → Busy m d so f sol s → Rooted s
      → (n : ℕ) (i : List ℕ) (after : List Need) (kind : Kind) → IsThere d m s n i after kind → s.rows (address n i) ≡ None
      → s.opens (address n i) ≡ None → (y : Address) (r : Row) → s.rows y ≡ Some r → is_in n kind i y ≡ true → ⊥
  none_in_leaf s b k n i after kind th no_row not_open y r e iny =
      not_rooted s.rows s.opens y (free_rows s b y) th.graph i n after kind th.is_open th.is_in no_row not_open iny (k y r e)

  -- no open graph is in it
  pub none_open : (s : State Row Begun Decision Verdict) → (n : ℕ) (i : List ℕ) (after : List Need) (kind : Kind)
      → IsDecided d m s n i after kind
      → (q : ℕ) (j : List ℕ) (before : List Need) (other : Kind) → IsThere d m s q j before other → is_in n kind i (address q j) ≡ true
      → is_own n i (address q j) ≡ false → ⊥
  none_open s n i after kind de q j before other it inq not_own =
      let y = address q j in let th = de.is_there in
      not_rooted (one q j true) s.opens y (free_one s.opens y) th.graph i n after kind th.is_open th.is_in
      (unless (is_own q j (address n i)) (Some true) None
      (not_true (is_own q j (address n i))
      (λ t. true≢false (sym (ap (λ (z : Address). is_own n i z) (own_is q j (address n i) t) ∙ own_self n i) ∙ not_own))))
      de.not_open inq
      (root m.taken (one q j true) s.opens y d it.graph j it.is_open
      (finished it.is_in (when (is_own q j y) (Some true) None (own_self q j)) (own_in q other j)))

  pub untouched : (s : State Row Begun Decision Verdict) → Busy m d so f sol s → Rooted s
      → (n : ℕ) (i : List ℕ) (after : List Need) (kind : Kind) → IsDecided d m s n i after kind → (y : Address) → is_in n kind i y ≡ true
      → s.rows y ≡ None
  untouched s b k n i after kind de y iny = (none_in s b k n i after kind de y iny).0

  -- and in an open loop rows stand in begun iterations
  pub begun : (s : State Row Begun Decision Verdict) → Busy m d so f sol s → Rooted s
      → (n : ℕ) (i : List ℕ) (after : List Need) (most : ℕ) (h : Graph) (w : Opening Decision Verdict)
      → IsThere d m s n i after (Until most h) → s.opens (address n i) ≡ Some w → (y : Address) (r : Row) → s.rows y ≡ Some r
      → is_in n (Until most h) i y ≡ true → (j : ℕ) × (j < w.next) × (is_within h (i ++ j ∷ []) y ≡ true)
  begun s b k n i after most h w th e y r q iny =
      let z = in_open s.rows s.opens y (free_rows s b y) th.graph i n after (Until most h) w th.is_open th.is_in e
      (b.no_row (address n i) (inr (w, e))) iny (k y r q) in
      (z.0, z.1, rooted_within m.taken s.rows s.opens y h (i ++ z.0 ∷ []) z.2)

  -- nothing is in an iteration that hasn't begun
  none_next : (s : State Row Begun Decision Verdict) → Busy m d so f sol s → Rooted s
      → (n : ℕ) (i : List ℕ) (after : List Need) (kind : Kind) (h : Graph) (w : Opening Decision Verdict) → IsThere d m s n i after kind
      → s.opens (address n i) ≡ Some w → holds kind n ≡ false → ((q : ℕ) → holds kind q ≡ has h q)
      → ((y : Address) → Inner m.taken s.rows s.opens y kind i w → (j : ℕ) × (j < w.next) × IsRooted m.taken s.rows s.opens y h
      (i ++ j ∷ []))
      → ((y : Address) → Inner m.taken (one y.name y.at true) s.opens y kind i w
      → (j : ℕ) × (j < w.next) × IsRooted m.taken (one y.name y.at true) s.opens y h (i ++ j ∷ []))
      → (y : Address) → is_within h (i ++ w.next ∷ []) y ≡ true → NoneAt s y
  none_next s b k n i after kind h w th e nh held' rows busy y wy =
      none_at s b k y
      (λ r. let z = rows y
      (in_open s.rows s.opens y (free_rows s b y) th.graph i n after kind w th.is_open th.is_in e
      (b.no_row (address n i) (inr (w, e))) inn r) in
      before z.0 z.1 (rooted_within m.taken s.rows s.opens y h (i ++ z.0 ∷ []) z.2))
      (λ r. let z = busy y
      (in_open (one y.name y.at true) s.opens y (free_one s.opens y) th.graph i n after kind w th.is_open th.is_in e
      (free_one s.opens y n i w e (other_name kind n y nh hy)) inn r) in
      before z.0 z.1 (rooted_within m.taken (one y.name y.at true) s.opens y h (i ++ z.0 ∷ []) z.2))
    where
      wo : is_within h i y ≡ true
      wo = outer m d so f sol h i w.next y wy

      hy : holds kind y.name ≡ true
      hy = held' y.name ∙ (and_in (has h y.name) (starts i y.at) wo).0

      inn : is_in n kind i y ≡ true
      inn = held_in n kind i y (and_of (holds kind y.name) (starts i y.at) hy (and_in (has h y.name) (starts i y.at) wo).1)

      before : (j : ℕ) → j < w.next → is_within h (i ++ j ∷ []) y ≡ true → ⊥
      before j lt wj = let same = turn_of m d so f sol h i j w.next y wj wy in omega (arith, same, lt)

  pub none_turn : (s : State Row Begun Decision Verdict) → Busy m d so f sol s → Rooted s
      → (n : ℕ) (i : List ℕ) (after : List Need) (pace : Pace) (h : Graph) (w : Opening Decision Verdict)
      → IsThere d m s n i after (Foreach pace h) → s.opens (address n i) ≡ Some w → has h n ≡ false → (y : Address)
      → is_within h (i ++ w.next ∷ []) y ≡ true → NoneAt s y
  none_turn s b k n i after pace h w th e nh = none_next s b k n i after (Foreach pace h) h w th e nh (λ q. refl) (λ y z. z) (λ y z. z)

  pub none_round : (s : State Row Begun Decision Verdict) → Busy m d so f sol s → Rooted s
      → (n : ℕ) (i : List ℕ) (after : List Need) (most : ℕ) (h : Graph) (w : Opening Decision Verdict)
      → IsThere d m s n i after (Until most h) → s.opens (address n i) ≡ Some w → has h n ≡ false → (y : Address)
      → is_within h (i ++ w.next ∷ []) y ≡ true → NoneAt s y
  none_round s b k n i after most h w th e nh = none_next s b k n i after (Until most h) h w th e nh (λ q. refl) (λ y z. z) (λ y z. z)

  -- KEPT BY EACH EVENT
  same_opens : (o : Table (Opening Decision Verdict)) (u : Table Row) (x : Address) (w : Opening Decision Verdict) → o x ≡ Some w
      → ((r : Row) × (u x ≡ Some r)) ⊎ ((z : Opening Decision Verdict) × (o x ≡ Some z) × (z.decision ≡ w.decision) × (w.next ≤ z.next))
  same_opens o u x w e = inr (w, e, refl, omega arith)

  -- where an open container has another entry
  iterates : (s : State Row Begun Decision Verdict) → Rooted s → (n : ℕ) (i : List ℕ) (w v : Opening Decision Verdict)
      → s.opens (address n i) ≡ Some w → v.decision ≡ w.decision → w.next ≤ v.next
      → Rooted (record { rows = s.rows; running = s.running; opens = opened n i (Some v) s.opens })
  iterates s k n i w v e same le y r q =
      rooted_grows m.taken s.rows s.rows s.opens (opened n i (Some v) s.opens) y (λ x p h. (p, h)) up d [] (k y r q)
    where
      up : (x : Address) (u : Opening Decision Verdict) → s.opens x ≡ Some u
          → ((r : Row) × (s.rows x ≡ Some r))
          ⊎ ((z : Opening Decision Verdict) × (opened n i (Some v) s.opens x ≡ Some z) × (z.decision ≡ u.decision) × (u.next ≤ z.next))
      up x u h =
          ⊎_elim
          (λ t. let q : Some w ≡ Some u = sym e ∙ ap s.opens (own_is n i x t) ∙ h in let is : w ≡ u = cc in
          inr (v, when (is_own n i x) (Some v) (s.opens x) t, same ∙ ap (λ z. z.decision) is, subst (λ z. z.next ≤ v.next) is le))
          (λ t. inr (u, unless (is_own n i x) (Some v) (s.opens x) t ∙ h, refl, omega arith))
          (two (is_own n i x))

  pub step_rooted : (s : State Row Begun Decision Verdict) (e : Event) (s' : State Row Begun Decision Verdict) → Busy m d so f sol s
      → Rooted s → Step d m s e s' → Rooted s'
  step_rooted s (Start n i) s' b k (after, de, pass, to) = subst Rooted (sym to) k
  step_rooted s (Try n i) s' b k (w, e, lt, to) = subst Rooted (sym to) k
  step_rooted s (End n i) s' b k (w, e, all, to) =
      subst Rooted (sym to)
      (λ y r q. ⊎_elim (λ h. ended y r h)
      (λ h. rooted_grows m.taken s.rows (place new s.rows) s.opens s.opens y (placed_grows new s.rows)
      (same_opens s.opens (place new s.rows)) d [] (k y r h)) (place_split new s.rows y r q))
    where
      row : Row
      row = m.finish (address n i) w.begun s.rows

      new : Table Row
      new = one n i row

      ended : (y : Address) (r : Row) → one n i row y ≡ Some r → IsRooted m.taken (place new s.rows) s.opens y d []
      ended y r h =
          let th = b.there' (address n i) (inl (w, e)) in
          subst (λ (z : Address). IsRooted m.taken (place new s.rows) s.opens z d []) (one_is n i row y r h).0
          (root m.taken (place new s.rows) s.opens (address n i) d th.2.graph i th.2.is_open
          (finished th.2.is_in (placed_one n i row s.rows) (own_in n th.1 i)))
  step_rooted s (Skip n i) s' b k (after, kind, de, fails, to) =
      subst Rooted (sym to)
      (λ y r q. ⊎_elim (λ h. skipped y r h)
      (λ h. rooted_grows m.taken s.rows (place new s.rows) s.opens s.opens y (placed_grows new s.rows)
      (same_opens s.opens (place new s.rows)) d [] (k y r h)) (place_split new s.rows y r q))
    where
      new : Table Row
      new = skip m n kind i

      own : place new s.rows (address n i) ≡ Some m.skipped
      own =
          ap (λ o. or_else o (s.rows (address n i)))
          (when ((nat_eq n n || shows kind n) && same_at i i) (Some m.skipped) None
          (and_of (nat_eq n n || shows kind n) (same_at i i) (ap (λ z. z || shows kind n) (same_self n)) (same_self_at i)))

      skipped : (y : Address) (r : Row) → skip m n kind i y ≡ Some r → IsRooted m.taken (place new s.rows) s.opens y d []
      skipped y r h =
          let q = skip_in m n kind i y r h in
          root m.taken (place new s.rows) s.opens y d de.is_there.graph i de.is_there.is_open
          (finished de.is_there.is_in own
          (and_of (nat_eq n y.name || holds kind y.name) (starts i y.at)
          (either_or (nat_eq n y.name) (shows kind y.name) (nat_eq n y.name) (holds kind y.name) (λ x. x) (shows_holds kind y.name) q.0)
          (same_starts i y.at q.1)))
  step_rooted s (Open n i) s' b k (after, kind, c, de, pass, to) =
      subst Rooted (sym to)
      (λ y r q. ⊎_elim (λ h. passes kind de.is_there.is_in y r h)
      (λ h. rooted_grows m.taken s.rows (place new s.rows) s.opens more y (placed_grows new s.rows) up d [] (k y r h))
      (place_split new s.rows y r q))
    where
      w : Opening Decision Verdict
      w = record { decision = m.decide (address n i) s.rows; next = 0; test = None }

      number : ℕ
      number = m.taken (m.decide (address n i) s.rows)

      new : Table Row
      new = passed_over m kind number i

      more : Table (Opening Decision Verdict)
      more = opened n i (Some w) s.opens

      other : (x : Address) (v : Opening Decision Verdict) → s.opens x ≡ Some v → more x ≡ Some v
      other x v e =
          unless (is_own n i x) (Some w) (s.opens x)
          (not_true (is_own n i x) (λ t. none-some v (sym de.not_open ∙ ap s.opens (own_is n i x t) ∙ e))) ∙ e

      up : (x : Address) (v : Opening Decision Verdict) → s.opens x ≡ Some v
          → ((r : Row) × (place new s.rows x ≡ Some r))
          ⊎ ((z : Opening Decision Verdict) × (more x ≡ Some z) × (z.decision ≡ v.decision) × (v.next ≤ z.next))
      up x v e = inr (v, other x v e, refl, omega arith)

      passes : (kind' : Kind) → In de.is_there.graph n after kind' → (y : Address) (r : Row) → passed_over m kind' number i y ≡ Some r
          → IsRooted m.taken (place new s.rows) more y d []
      passes Leaf st y r h = absurd (none-some r h)
      passes (Scope g) st y r h = absurd (none-some r h)
      passes (Choice bs) st y r h =
          root m.taken (place new s.rows) more y d de.is_there.graph i
          (open_grows m.taken d s.opens more (λ x v e. (v, other x v e, refl, omega arith)) de.is_there.graph i de.is_there.is_open)
          (passed st (when (is_own n i (address n i)) (Some w) (s.opens (address n i)) (own_self n i)) (some_others m bs number i y r h))
      passes (Foreach pace g) st y r h = absurd (none-some r h)
      passes (Until most g) st y r h = absurd (none-some r h)
  step_rooted s (Begin n i) s' b k (after, kind, w, th, e, may, to) =
      subst Rooted (sym to) (iterates s k n i w (record { decision = w.decision; next = suc w.next; test = None }) e refl (omega arith))
  step_rooted s (Test n i) s' b k (after, kind, w, j, th, e, may, to) =
      subst Rooted (sym to)
      (iterates s k n i w (record { decision = w.decision; next = w.next; test = Some (m.test (address n i) j s.rows) }) e refl
      (omega arith))
  step_rooted s (Close n i) s' b k (after, kind, w, th, e, may, to) =
      subst Rooted (sym to)
      (λ y r q. closes y (⊎_elim (λ h. closed y r h)
      (λ h. rooted_grows m.taken s.rows (place new s.rows) s.opens s.opens y (placed_grows new s.rows)
      (same_opens s.opens (place new s.rows)) d [] (k y r h)) (place_split new s.rows y r q)))
    where
      row : Row
      row = closing m kind (address n i) w s.rows

      new : Table Row
      new = one n i row

      closed : (y : Address) (r : Row) → one n i row y ≡ Some r → IsRooted m.taken (place new s.rows) s.opens y d []
      closed y r h =
          subst (λ (z : Address). IsRooted m.taken (place new s.rows) s.opens z d []) (one_is n i row y r h).0
          (root m.taken (place new s.rows) s.opens (address n i) d th.graph i th.is_open
          (finished th.is_in (placed_one n i row s.rows) (own_in n kind i)))

      -- what was open has its row
      closes : (y : Address) → IsRooted m.taken (place new s.rows) s.opens y d []
          → IsRooted m.taken (place new s.rows) (opened n i None s.opens) y d []
      closes y r =
          rooted_grows m.taken (place new s.rows) (place new s.rows) s.opens (opened n i None s.opens) y (λ x p h. (p, h)) up d [] r
        where
          up : (x : Address) (v : Opening Decision Verdict) → s.opens x ≡ Some v
              → ((r : Row) × (place new s.rows x ≡ Some r))
              ⊎ ((z : Opening Decision Verdict) × (opened n i None s.opens x ≡ Some z) × (z.decision ≡ v.decision) × (v.next ≤ z.next))
          up x v h =
              ⊎_elim
              (λ t. inl (row, subst (λ (z : Address). place new s.rows z ≡ Some row) (own_is n i x t) (placed_one n i row s.rows)))
              (λ t. inr (v, unless (is_own n i x) None (s.opens x) t ∙ h, refl, omega arith))
              (two (is_own n i x))

  pub run_rooted : IsClosed m d so f sol → SpecialOut m d so f sol → (s : State Row Begun Decision Verdict) (es : List Event)
      (s' : State Row Begun Decision Verdict) → Keeps m d so f sol s → Busy m d so f sol s → Rooted s → Run d m s es s' → Rooted s'
  run_rooted closed out s [] s' k b q r = subst Rooted (sym r) q
  run_rooted closed out s (e ∷ es) s' k b q (mid, st, rest) =
      run_rooted closed out mid es s' (step_keeps m d so f sol closed out s e mid k st) (step_busy m d so f sol out s e mid k b st)
      (step_rooted s e mid b q st) rest
