-- What an event makes of the counts of a state.
use Rattle.std.proofs.Common.{◌≡◌, ℕ, zero, suc, ◌<◌, ◌≤◌, ◌-◌, Bool, true, false, ◌&&◌, ◌||◌, cond, List, [], ◌∷◌, ◌++◌, length, Some, None, ◌⊎◌, inl, inr, ⊎_elim, refl, sym, ap, ◌∙◌, subst, arith, nat_eq, eqb-true, true≢false}
use Rattle.std.proofs.lemmas.Option.{none-some}
use Rattle.std.proofs.lemmas.Bool.{eqb-false}
use Rattle.wf_layers.specs.Definition.{Need, Names, Kind, Leaf, Scope, Choice, Foreach, Until, Branches, no_branch, branch, Graph, done, add, is_one, less_one, branch_at, holds, has, has_any, has_own, shows, needs_of, kind_of}
use Rattle.wf_layers.specs.Address.{Address, address, Table, same_at, starts, is_own, is_in, is_within, SeenIn}
use Rattle.wf_layers.specs.Source.{Source, Sound, SoundAny, SoundIn}
use Rattle.wf_layers.specs.Meaning.{meaning}
use Rattle.wf_layers.specs.Rule.{Obeys}
use Rattle.wf_layers.specs.Machine.{Opening, State, In, here, there, IsOpen, top, scope, chosen, turn, round, has_ended, or_else, one, Event, Start, Try, End, Skip, Open, Begin, Test, Close, place_of, passed_over, skip_others, MayBegin, IsThere, Step}
use Rattle.wf_layers.specs.Changes.{owns, is_named, places, next_of, enters}
use Rattle.wf_layers.specs.Waiting.{waiting, lacking, times, Ends}
use Rattle.wf_layers.specs.Seen.{Once, OnceIn, OnceAny}
use Rattle.wf_layers.specs.Facts.{IsRooted, finished}
use Rattle.wf_layers.proofs.Basics.{two, and_in, and_of, apart, not_true, same_self, same_self_at, when, unless, held_in, or_first, or_second, own_in, starts_outer}
use Rattle.wf_layers.proofs.Tables.{own_is, own_self, same_starts, same_at_is, taken_within}
use Rattle.wf_layers.proofs.Open.{open_sub, placed_in, kind_there, turn_of}
use Rattle.wf_layers.proofs.Keeps.{Keeps, IsClosed, SpecialOut}
use Rattle.wf_layers.proofs.Busy.{Busy}
use Rattle.wf_layers.proofs.Rooted.{Rooted, root, inner_of, rooted_in, rooted_within, in_graph, none_in, none_turn, none_round, none_open}
use Rattle.wf_layers.proofs.Waiting.{own_has, counts_are}
use Rattle.wf_layers.proofs.Changes.{in_own, named, in_taken, owns_holds, rows_else, was, entered_none}
use Rattle.wf_kept.specs.Reached.{IsReached}
use Rattle.wf_kept.specs.Counted.{nonzero, less, size, IsInner, in_scope, in_taken as inner_taken, in_turn, in_round, AreCounts, waits_after, AreLacksAfter}
use Rattle.wf_kept.proofs.Known.{known}

-- where nothing has a row
waits_all : {A : Type 0} (after : List Need) (i : List ℕ) (t : Table A) → ((q : ℕ) → Names after q → t (address q i) ≡ None)
    → waiting after i t ≡ length after
waits_all [] i t none = refl
waits_all (n ∷ ns) i t none =
    ap (λ o. cond (has_ended o) (waiting ns i t) (suc (waiting ns i t))) (none n.name (inl refl))
    ∙ ap suc (waits_all ns i t (λ q h. none q (inr h)))

lacks_all : {A : Type 0} (g : Graph) (i : List ℕ) (t : Table A) → ((q : ℕ) → has_own g q ≡ true → t (address q i) ≡ None)
    → lacking g i t ≡ size g
lacks_all done i t none = refl
lacks_all (add n after kind rest) i t none =
    ap (λ o. cond (has_ended o) (lacking rest i t) (suc (lacking rest i t))) (none n (or_first (nat_eq n n) (has_own rest n) (same_self n)))
    ∙ ap suc (lacks_all rest i t (λ q h. none q (or_second (nat_eq n q) (has_own rest q) h)))

-- where no row of these is new
waits_same : {A : Type 0} (after : List Need) (i : List ℕ) (t u : Table A) → ((q : ℕ) → Names after q → t (address q i) ≡ u (address q i))
    → waiting after i t ≡ waiting after i u
waits_same [] i t u same = refl
waits_same (n ∷ ns) i t u same =
    ap (λ o. cond (has_ended o) (waiting ns i t) (suc (waiting ns i t))) (same n.name (inl refl))
    ∙ ap (λ c. cond (has_ended (u (address n.name i))) c (suc c)) (waits_same ns i t u (λ q h. same q (inr h)))

lacks_same : {A : Type 0} (g : Graph) (i : List ℕ) (t u : Table A)
    → ((q : ℕ) → has_own g q ≡ true → t (address q i) ≡ u (address q i)) → lacking g i t ≡ lacking g i u
lacks_same done i t u same = refl
lacks_same (add n after kind rest) i t u same =
    ap (λ o. cond (has_ended o) (lacking rest i t) (suc (lacking rest i t))) (same n (or_first (nat_eq n n) (has_own rest n) (same_self n)))
    ∙ ap (λ c. cond (has_ended (u (address n i))) c (suc c))
    (lacks_same rest i t u (λ q h. same q (or_second (nat_eq n q) (has_own rest q) h)))

less_is : (k c : ℕ) → less c (nonzero k) ≡ nonzero (k - c)
less_is zero c = let is : 0 ≡ 0 - c = omega arith in ap nonzero is
less_is (suc k) c = refl

pub named_is : (ns : List Need) (p : ℕ) → is_named ns p ≡ true → Names ns p
named_is [] p e = absurd (true≢false (sym e))
named_is (n ∷ ns) p e =
    ⊎_elim (λ t. inl (eqb-true n.name p t)) (λ u. inr (named_is ns p (sym (ap (λ b. b || is_named ns p) u) ∙ e))) (two (nat_eq n.name p))

named_not : (ns : List Need) (p : ℕ) → is_named ns p ≡ false → (q : ℕ) → Names ns q → nat_eq q p ≡ false
named_not [] p e q h = absurd h
named_not (n ∷ ns) p e q (inl is) = subst (λ x. nat_eq x p ≡ false) is (first (nat_eq n.name p) (is_named ns p) e)
  where
    first : (a b : Bool) → (a || b) ≡ false → a ≡ false
    first true b z = absurd (true≢false z)
    first false b z = refl
named_not (n ∷ ns) p e q (inr h) = named_not ns p (later (nat_eq n.name p) (is_named ns p) e) q h
  where
    later : (a b : Bool) → (a || b) ≡ false → b ≡ false
    later true b z = absurd (true≢false z)
    later false b z = z

module _ {Row Begun Decision Verdict : Type 0} (m : Source Row Begun Decision Verdict) (d : Graph) (so : Sound m (SeenIn d) d 0)
    (f : Table Row) (sol : Obeys m d f) (closed : IsClosed m d so f sol) (out : SpecialOut m d so f sol)
    (s : State Row Begun Decision Verdict) (e : Event) (s' : State Row Begun Decision Verdict) (k : Keeps m d so f sol s)
    (b : Busy m d so f sol s) (r : Rooted m d so f sol s) (st : Step d m s e s') where
  abbrev St : Type 0
  St = State Row Begun Decision Verdict

  abbrev Op : Type 0
  Op = Opening Decision Verdict

  -- a graph that the event enters
  pub record IsNew (g : Graph) (i : List ℕ) : Type 0 where
    pub container : ℕ
    pub at : List ℕ
    pub after : List Need
    pub kind : Kind
    pub opening : Op
    pub stood : IsThere d m s container at after kind
    pub is_open : s'.opens (address container at) ≡ Some opening
    pub inner : IsInner m.taken opening at kind g i
    pub how : ((opening.next ≡ 0) × (e ≡ Open container at))
        ⊎ ((u : Op) × (e ≡ Begin container at) × (s.opens (address container at) ≡ Some u) × (i ≡ at ++ u.next ∷ []))

  kind_at : (n : ℕ) (i : List ℕ) (after : List Need) (kind : Kind) → IsThere d m s n i after kind → kind_of d n ≡ Some kind
  kind_at n i after kind th = (kind_there m d so f sol s.opens th.graph i n after kind th.is_open th.is_in).0

  -- it is entered at each of its actions
  pub new_enters : (g : Graph) (i : List ℕ) → IsNew g i → (q : ℕ) → has_own g q ≡ true → enters d s e (address q i) ≡ true
  new_enters g i new q own = ⊎_elim at_open at_begin new.how
    where
      kn : kind_of d new.container ≡ Some new.kind
      kn = kind_at new.container new.at new.after new.kind new.stood

      owned : (at j : List ℕ) (kind : Kind) (w : Op) → IsInner m.taken w at kind g j → owns (Some kind) q ≡ true
      owned at _ _ w in_scope = own
      owned at _ _ w (inner_taken {bs = bs} is) = in_taken bs (m.taken w.decision) g is q own
      owned at _ _ w (in_turn j lt) = own
      owned at _ _ w (in_round j lt) = own

      place_at : (at j : List ℕ) (kind : Kind) (w : Op) → w.next ≡ 0 → IsInner m.taken w at kind g j → at ≡ j
      place_at at _ _ w z in_scope = refl
      place_at at _ _ w z (inner_taken is) = refl
      place_at at _ _ w z (in_turn j lt) = absurd (omega (arith, z, lt))
      place_at at _ _ w z (in_round j lt) = absurd (omega (arith, z, lt))

      at_open : (new.opening.next ≡ 0) × (e ≡ Open new.container new.at) → enters d s e (address q i) ≡ true
      at_open (z, ex) =
          ap (λ y. enters d s y (address q i)) ex
          ∙ and_of (owns (kind_of d new.container) q) (same_at new.at i)
          (ap (λ o. owns o q) kn ∙ owned new.at i new.kind new.opening new.inner)
          (subst (λ j. same_at new.at j ≡ true) (place_at new.at i new.kind new.opening z new.inner) (same_self_at new.at))

      at_begin : ((u : Op) × (e ≡ Begin new.container new.at) × (s.opens (address new.container new.at) ≡ Some u)
          × (i ≡ new.at ++ u.next ∷ [])) → enters d s e (address q i) ≡ true
      at_begin (u, ex, eu, is) =
          ap (λ y. enters d s y (address q i)) ex
          ∙ and_of (owns (kind_of d new.container) q) (same_at (new.at ++ next_of (s.opens (address new.container new.at)) ∷ []) i)
          (ap (λ o. owns o q) kn ∙ owned new.at i new.kind new.opening new.inner)
          (ap (λ o. same_at (new.at ++ next_of o ∷ []) i) eu ∙ ap (λ j. same_at (new.at ++ u.next ∷ []) j) is
          ∙ same_self_at (new.at ++ u.next ∷ []))

  pub not_new : (g : Graph) (i : List ℕ) → IsNew g i → (c : ℕ) (ca : List Need) (kd : Kind) → In g c ca kd → (v : Op)
      → s'.opens (address c i) ≡ Some v → ⊥
  not_new g i new c ca kd st' v h =
      entered_none m d so f sol closed out s e s' k b r st c i (new_enters g i new c (in_own g c ca kd st')) v h

  -- AN OPEN GRAPH WAS OPEN BEFORE, OR IS NEW
  pub opened_or_new : (g : Graph) (i : List ℕ) → IsOpen m.taken d s'.opens g i → IsOpen m.taken d s.opens g i ⊎ IsNew g i
  opened_or_new _ _ top = inl top
  opened_or_new _ i (scope {g = g} {h = h} {n = c} {after = ca} {w = v} og st' ev) =
      ⊎_elim
      (λ og'. ⊎_elim
      (λ z. inl (scope og' st' z.1))
      (λ z. inr (record {
        container = c;
        at = i;
        after = ca;
        kind = Scope h;
        opening = v;
        stood = record { graph = g; is_open = og'; is_in = st' };
        is_open = ev;
        inner = in_scope;
        how = inl z;
      }))
      (was m d so f sol closed out s e s' k b r st c i v ev))
      (λ new. absurd (not_new g i new c ca (Scope h) st' v ev))
      (opened_or_new g i og)
  opened_or_new _ i (chosen {g = g} {b = x} {n = c} {after = ca} {bs = bs} {w = v} og st' ev is) =
      ⊎_elim
      (λ og'. ⊎_elim
      (λ z. inl (chosen og' st' z.1 (ap (λ o. branch_at bs (m.taken o)) z.2 ∙ is)))
      (λ z. inr (record {
        container = c;
        at = i;
        after = ca;
        kind = Choice bs;
        opening = v;
        stood = record { graph = g; is_open = og'; is_in = st' };
        is_open = ev;
        inner = inner_taken is;
        how = inl z;
      }))
      (was m d so f sol closed out s e s' k b r st c i v ev))
      (λ new. absurd (not_new g i new c ca (Choice bs) st' v ev))
      (opened_or_new g i og)
  opened_or_new _ _ (turn {g = g} {h = h} {i = i} {n = c} {after = ca} {pace = pace} {w = v} j og st' ev lt) =
      ⊎_elim
      (λ og'. ⊎_elim
      (λ z. ⊎_elim
      (λ le. inl (turn j og' st' z.1 (omega (arith, le, lt))))
      (λ y. let nx = y.0 in ⊎_elim
      (λ t. inr (record {
        container = c;
        at = i;
        after = ca;
        kind = Foreach pace h;
        opening = v;
        stood = record { graph = g; is_open = og'; is_in = st' };
        is_open = ev;
        inner = in_turn j lt;
        how = inr (z.0, y.1, z.1, ap (λ q. i ++ q ∷ []) (eqb-true j z.0.next t));
      }))
      (λ t. let ne = eqb-false j z.0.next t in inl (turn j og' st' z.1 (omega (arith, nx, lt, ne))))
      (two (nat_eq j z.0.next)))
      z.3)
      (λ z. let nx = z.0 in absurd (omega (arith, nx, lt)))
      (was m d so f sol closed out s e s' k b r st c i v ev))
      (λ new. absurd (not_new g i new c ca (Foreach pace h) st' v ev))
      (opened_or_new g i og)
  opened_or_new _ _ (round {g = g} {h = h} {i = i} {n = c} {most = most} {after = ca} {w = v} j og st' ev lt) =
      ⊎_elim
      (λ og'. ⊎_elim
      (λ z. ⊎_elim
      (λ le. inl (round j og' st' z.1 (omega (arith, le, lt))))
      (λ y. let nx = y.0 in ⊎_elim
      (λ t. inr (record {
        container = c;
        at = i;
        after = ca;
        kind = Until most h;
        opening = v;
        stood = record { graph = g; is_open = og'; is_in = st' };
        is_open = ev;
        inner = in_round j lt;
        how = inr (z.0, y.1, z.1, ap (λ q. i ++ q ∷ []) (eqb-true j z.0.next t));
      }))
      (λ t. let ne = eqb-false j z.0.next t in inl (round j og' st' z.1 (omega (arith, nx, lt, ne))))
      (two (nat_eq j z.0.next)))
      z.3)
      (λ z. let nx = z.0 in absurd (omega (arith, nx, lt)))
      (was m d so f sol closed out s e s' k b r st c i v ev))
      (λ new. absurd (not_new g i new c ca (Until most h) st' v ev))
      (opened_or_new g i og)

  -- NOTHING HAS A ROW IN A NEW GRAPH

  taken_free : (bs : Branches) (l c : ℕ) (x : Graph) → SoundAny m (SeenIn d) bs l → branch_at bs c ≡ Some x → (i : List ℕ) (y : Address)
      → is_within x i y ≡ true → skip_others m bs c i y ≡ None
  taken_free no_branch l c x so' is i y w = absurd (none-some x is)
  taken_free (branch a rest) l c x so' is i y w =
      ⊎_elim
      (λ t. let same : Some a ≡ Some x = sym (when (is_one c) (Some a) _ t) ∙ is in let eq : a ≡ x = cc in
      when (is_within a i y) _ _ (subst (λ g. is_within g i y ≡ true) (sym eq) w) ∙ when (is_one c) None _ t)
      (λ u. let is' = sym (unless (is_one c) (Some a) _ u) ∙ is in
      unless (is_within a i y) _ _
      (apart (has a y.name) (has_any rest y.name) (starts i y.at) (so'.0 y.name) (taken_within x rest (less_one c) is' i y w))
      ∙ taken_free rest l (less_one c) x so'.2 is' i y w)
      (two (is_one c))

  some_same : {A : Type 0} (a c : A) → Some a ≡ Some c → a ≡ c
  some_same a c e = cc

  pub new_empty : (g : Graph) (i : List ℕ) → IsNew g i → (q : ℕ) → has_own g q ≡ true → s'.rows (address q i) ≡ None
  new_empty g i new q own = go e refl st
    where
      ent : enters d s e (address q i) ≡ true
      ent = new_enters g i new q own

      never : (x : Event) → e ≡ x → enters d s x (address q i) ≡ false → s'.rows (address q i) ≡ None
      never x ex shut = absurd (true≢false (sym (sym (ap (λ y. enters d s y (address q i)) ex) ∙ ent) ∙ shut))

      go : (x : Event) → e ≡ x → Step d m s x s' → s'.rows (address q i) ≡ None
      go (Start n l) ex z = never (Start n l) ex refl
      go (Try n l) ex z = never (Try n l) ex refl
      go (End n l) ex z = never (End n l) ex refl
      go (Skip n l) ex z = never (Skip n l) ex refl
      go (Test n l) ex z = never (Test n l) ex refl
      go (Close n l) ex z = never (Close n l) ex refl
      go (Open n l) ex (after, kind, ct, de, pass, to) = ⊎_elim opens' begins' new.how
        where
          begins' : ((u : Op) × (e ≡ Begin new.container new.at) × (s.opens (address new.container new.at) ≡ Some u)
              × (i ≡ new.at ++ u.next ∷ [])) → s'.rows (address q i) ≡ None
          begins' (u, ez, eu, is) =
              let same : address n l ≡ address new.container new.at = ap place_of (sym ex ∙ ez) in
              absurd (none-some u (sym de.not_open ∙ ap s.opens same ∙ eu))

          opens' : (new.opening.next ≡ 0) × (e ≡ Open new.container new.at) → s'.rows (address q i) ≡ None
          opens' (z, ez) =
              let same : address n l ≡ address new.container new.at = ap place_of (sym ex ∙ ez) in
              let th = de.is_there in
              let kn = kind_at n l after kind th in
              let names = ap (λ (a : Address). a.name) same in
              let kinds = some_same new.kind kind
              (sym (kind_at new.container new.at new.after new.kind new.stood) ∙ ap (kind_of d) (sym names) ∙ kn) in
              let places' = ap (λ (a : Address). a.at) same in
              let w : Op = record { decision = m.decide (address n l) s.rows; next = 0; test = None } in
              let there' : s'.opens (address n l) ≡ Some w =
              ap (λ (z' : St). z'.opens (address n l)) to ∙ when (is_own n l (address n l)) _ _ (own_self n l) in
              let what = some_same new.opening w (sym new.is_open ∙ ap s'.opens (sym same) ∙ there') in
              let inner = subst (λ o. IsInner m.taken o l kind g i) what
              (subst (λ j. IsInner m.taken new.opening j kind g i) (sym places')
              (subst (λ kd. IsInner m.taken new.opening new.at kd g i) kinds new.inner)) in
              let pl = placed_in m d so f sol (length l) th.graph n after kind
              (open_sub m d so f sol s.opens th.graph l th.is_open) th.is_in in
              ap (λ (z' : St). z'.rows (address q i)) to
              ∙ at_kind l i w refl kind inner pl.sound
              (λ y iny. (none_in m d so f sol s b r n l after kind de y iny).0)
            where
              at_kind : (l i : List ℕ) (o : Op) → o.next ≡ 0 → (kd : Kind) → IsInner m.taken o l kd g i
                  → SoundIn m (SeenIn d) kd n (length l)
                  → ((y : Address) → is_in n kd l y ≡ true → s.rows y ≡ None)
                  → or_else (passed_over m kd (m.taken o.decision) l (address q i)) (s.rows (address q i)) ≡ None
              at_kind l _ o z _ in_scope sk none =
                  none (address q l) (held_in n (Scope g) l (address q l)
                  (and_of (has g q) (starts l l) (own_has g q own) (same_starts l l (same_self_at l))))
              at_kind l _ o z _ (inner_taken {bs = bs} is) sk none =
                  let win = and_of (has g q) (starts l l) (own_has g q own) (same_starts l l (same_self_at l)) in
                  ap (λ z. or_else z (s.rows (address q l)))
                  (taken_free bs (length l) (m.taken o.decision) g sk.2 is l (address q l) win)
                  ∙ none (address q l) (held_in n (Choice bs) l (address q l)
                  (taken_within g bs (m.taken o.decision) is l (address q l) win))
              at_kind l _ o z _ (in_turn j lt) sk none = absurd (omega (arith, z, lt))
              at_kind l _ o z _ (in_round j lt) sk none = absurd (omega (arith, z, lt))
      go (Begin n l) ex (after, kind, w, th, eq, may, to) = ⊎_elim opens' begins' new.how
        where
          opens' : (new.opening.next ≡ 0) × (e ≡ Open new.container new.at) → s'.rows (address q i) ≡ None
          opens' (z, ez) = never' (sym ex ∙ ez)
            where
              never' : Begin n l ≡ Open new.container new.at → s'.rows (address q i) ≡ None
              never' c = absurd (clash c)
                where
                  begins? : Event → Bool
                  begins? (Begin n l) = true
                  begins? x = false

                  clash : Begin n l ≡ Open new.container new.at → ⊥
                  clash c = true≢false (ap begins? c)

          begins' : ((u : Op) × (e ≡ Begin new.container new.at) × (s.opens (address new.container new.at) ≡ Some u)
              × (i ≡ new.at ++ u.next ∷ [])) → s'.rows (address q i) ≡ None
          begins' (u, ez, eu, is) =
              let same : address n l ≡ address new.container new.at = ap place_of (sym ex ∙ ez) in
              let kn = kind_at n l after kind th in
              let names = ap (λ (a : Address). a.name) same in
              let kinds = some_same new.kind kind
              (sym (kind_at new.container new.at new.after new.kind new.stood) ∙ ap (kind_of d) (sym names) ∙ kn) in
              let ats = ap (λ (a : Address). a.at) same in
              let us = some_same u w (sym eu ∙ ap s.opens (sym same) ∙ eq) in
              let is' : i ≡ l ++ w.next ∷ [] = is ∙ ap (λ j. j ++ u.next ∷ []) (sym ats) ∙ ap (λ (o : Op). l ++ o.next ∷ []) us in
              let pl = placed_in m d so f sol (length l) th.graph n after kind
              (open_sub m d so f sol s.opens th.graph l th.is_open) th.is_in in
              ap (λ (z' : St). z'.rows (address q i)) to
              ∙ ap (λ j. s.rows (address q j)) is'
              ∙ at_kind new.at i kind new.opening th pl.apart_own may
              (subst (λ kd. IsInner m.taken new.opening new.at kd g i) kinds new.inner)
            where
              win : is_within g (l ++ w.next ∷ []) (address q (l ++ w.next ∷ [])) ≡ true
              win = and_of (has g q) (starts (l ++ w.next ∷ []) (l ++ w.next ∷ [])) (own_has g q own)
                  (same_starts (l ++ w.next ∷ []) (l ++ w.next ∷ []) (same_self_at (l ++ w.next ∷ [])))

              at_kind : (at j : List ℕ) (kd : Kind) (o : Op) → IsThere d m s n l after kd → holds kd n ≡ false
                  → MayBegin m kd l w s.rows → IsInner m.taken o at kd g j → s.rows (address q (l ++ w.next ∷ [])) ≡ None
              at_kind at _ _ o th' nh may' in_scope = absurd may'
              at_kind at _ _ o th' nh may' (inner_taken is) = absurd may'
              at_kind at _ _ o th' nh may' (in_turn {pace = pace} j lt) =
                  (none_turn m d so f sol s b r n l after pace g w th' eq nh (address q (l ++ w.next ∷ [])) win).0
              at_kind at _ _ o th' nh may' (in_round {most = most} j lt) =
                  (none_round m d so f sol s b r n l after most g w th' eq nh (address q (l ++ w.next ∷ [])) win).0

  -- NO OPEN GRAPH IS ENTERED AGAIN

  free_at : (y : Address) (c : ℕ) (j : List ℕ) (w : Op) → s.opens (address c j) ≡ Some w → nat_eq c y.name ≡ false
      → one y.name y.at true (address c j) ≡ None
  free_at y c j w eq ne =
      unless (is_own y.name y.at (address c j)) (Some true) None
      (not_true (is_own y.name y.at (address c j))
      (λ t. true≢false (sym (ap (λ (z : Address). nat_eq c z.name) (own_is y.name y.at (address c j) t) ∙ same_self c) ∙ ne)))

  pub entered_apart : (n : ℕ) (i : List ℕ) (before : List Need) (other : Kind) → IsThere d m s n i before other
      → enters d s e (address n i) ≡ true → ⊥
  entered_apart n i before other it ent = go e refl st
    where
      never : (x : Event) → e ≡ x → enters d s x (address n i) ≡ false → ⊥
      never x ex shut = true≢false (sym (sym (ap (λ y. enters d s y (address n i)) ex) ∙ ent) ∙ shut)

      go : (x : Event) → e ≡ x → Step d m s x s' → ⊥
      go (Start c l) ex z = never (Start c l) ex refl
      go (Try c l) ex z = never (Try c l) ex refl
      go (End c l) ex z = never (End c l) ex refl
      go (Skip c l) ex z = never (Skip c l) ex refl
      go (Test c l) ex z = never (Test c l) ex refl
      go (Close c l) ex z = never (Close c l) ex refl
      go (Open c l) ex (ca, kd, ct, de, pass, to) =
          let th = de.is_there in
          let kn = kind_at c l ca kd th in
          let pl = placed_in m d so f sol (length l) th.graph c ca kd (open_sub m d so f sol s.opens th.graph l th.is_open) th.is_in in
          let t = and_in (owns (kind_of d c) n) (same_at l i) (sym (ap (λ y. enters d s y (address n i)) ex) ∙ ent) in
          let hn = owns_holds kd n (sym (ap (λ z. owns z n) kn) ∙ t.0) in
          let inn = held_in c kd l (address n i) (and_of (holds kd n) (starts l i) hn (same_starts l i t.1)) in
          none_open m d so f sol s c l ca kd de n i before other it inn
          (not_true (is_own c l (address n i))
          (λ u. true≢false (sym hn ∙ ap (λ (z : Address). holds kd z.name) (sym (own_is c l (address n i) u)) ∙ pl.apart_own)))
      go (Begin c l) ex (ca, kd, w, th, eq, may, to) =
          let kn = kind_at c l ca kd th in
          let pl = placed_in m d so f sol (length l) th.graph c ca kd (open_sub m d so f sol s.opens th.graph l th.is_open) th.is_in in
          let t = and_in (owns (kind_of d c) n) (same_at (l ++ next_of (s.opens (address c l)) ∷ []) i)
          (sym (ap (λ y. enters d s y (address n i)) ex) ∙ ent) in
          let own = sym (ap (λ z. owns z n) kn) ∙ t.0 in
          let at = same_starts (l ++ w.next ∷ []) i (sym (ap (λ z. same_at (l ++ next_of z ∷ []) i) eq) ∙ t.1) in
          at_kind kd th pl.apart_own own at may
        where
          y : Address
          y = address n i

          t : Table Bool
          t = one n i true

          rooted : IsRooted m.taken t s.opens y d []
          rooted =
              root m.taken t s.opens y d it.graph i it.is_open
              (finished it.is_in (when (is_own n i y) (Some true) None (own_self n i)) (own_in n other i))

          turned : (kd : Kind) (h : Graph) → IsThere d m s c l ca kd → holds kd c ≡ false → ((q : ℕ) → holds kd q ≡ has h q)
              → has_own h n ≡ true → starts (l ++ w.next ∷ []) i ≡ true
              → ((y : Address) → IsRooted m.taken t s.opens y d [] → is_in c kd l y ≡ true
              → t (address c l) ≡ None
              → ((a : ℕ) (j : List ℕ) (v : Op) → s.opens (address a j) ≡ Some v → nat_eq a y.name ≡ false → t (address a j) ≡ None)
              → (j : ℕ) × (j < w.next) × IsRooted m.taken t s.opens y h (l ++ j ∷ []))
              → ⊥
          turned kd h th' nh same own at find =
              let hn = same n ∙ own_has h n own in
              let wn : is_within h (l ++ w.next ∷ []) y ≡ true = and_of (has h n) (starts (l ++ w.next ∷ []) i) (own_has h n own) at in
              let ne = not_true (nat_eq c n) (λ u. true≢false (sym hn ∙ ap (holds kd) (sym (eqb-true c n u)) ∙ nh)) in
              let inn = held_in c kd l y (and_of (holds kd n) (starts l i) hn (starts_outer l w.next i at)) in
              let q = find y rooted inn (free_at y c l w eq ne) (λ a j v h' ne'. free_at y a j v h' ne') in
              let z = turn_of m d so f sol h l q.0 w.next y (rooted_within m.taken t s.opens y h (l ++ q.0 ∷ []) q.2) wn in
              let lt = q.1 in
              omega (arith, z, lt)

          at_kind : (kd : Kind) → IsThere d m s c l ca kd → holds kd c ≡ false → owns (Some kd) n ≡ true
              → starts (l ++ w.next ∷ []) i ≡ true → MayBegin m kd l w s.rows → ⊥
          at_kind Leaf th' nh own at may' = may'
          at_kind (Scope h) th' nh own at may' = may'
          at_kind (Choice bs) th' nh own at may' = may'
          at_kind (Foreach pace h) th' nh own at may' =
              turned (Foreach pace h) h th' nh (λ q. refl) own at
              (λ y' ro inn none fr. inner_of m d so f sol t s.opens th'.graph l th'.is_open c ca (Foreach pace h) w th'.is_in eq none y' inn
              (rooted_in m d so f sol t s.opens y' fr th'.graph l th'.is_open
              (in_graph th'.graph c ca (Foreach pace h) th'.is_in l y' inn) ro))
          at_kind (Until most h) th' nh own at may' =
              turned (Until most h) h th' nh (λ q. refl) own at
              (λ y' ro inn none fr. inner_of m d so f sol t s.opens th'.graph l th'.is_open c ca (Until most h) w th'.is_in eq none y' inn
              (rooted_in m d so f sol t s.opens y' fr th'.graph l th'.is_open
              (in_graph th'.graph c ca (Until most h) th'.is_in l y' inn) ro))

  -- AN ACTION THAT GETS ITS ROW

  abbrev pub p : Address
  p = place_of e

  pub no_row_yet : places e ≡ true → s.rows (place_of e) ≡ None
  no_row_yet pl = go e refl st pl
    where
      go : (x : Event) → e ≡ x → Step d m s x s' → places e ≡ true → s.rows (place_of e) ≡ None
      go (End n l) ex (w, eq, all, to) pl = ap (λ y. s.rows (place_of y)) ex ∙ b.no_row (address n l) (inl (w, eq))
      go (Skip n l) ex (after, kind, de, fails, to) pl = ap (λ y. s.rows (place_of y)) ex ∙ de.no_row
      go (Close n l) ex (after, kind, w, th, eq, may, to) pl = ap (λ y. s.rows (place_of y)) ex ∙ b.no_row (address n l) (inr (w, eq))
      go (Start n l) ex z pl = absurd (true≢false (sym pl ∙ ap places ex))
      go (Try n l) ex z pl = absurd (true≢false (sym pl ∙ ap places ex))
      go (Open n l) ex z pl = absurd (true≢false (sym pl ∙ ap places ex))
      go (Begin n l) ex z pl = absurd (true≢false (sym pl ∙ ap places ex))
      go (Test n l) ex z pl = absurd (true≢false (sym pl ∙ ap places ex))

  ended_one : (n : ℕ) (l : List ℕ) (q : Row) → has_ended (or_else (one n l q (address n l)) (s.rows (address n l))) ≡ true
  ended_one n l q = ap (λ o. has_ended (or_else o (s.rows (address n l)))) (when (is_own n l (address n l)) (Some q) None (own_self n l))

  pub has_row_then : places e ≡ true → has_ended (s'.rows (place_of e)) ≡ true
  has_row_then pl = go e refl st pl
    where
      go : (x : Event) → e ≡ x → Step d m s x s' → places e ≡ true → has_ended (s'.rows (place_of e)) ≡ true
      go (End n l) ex (w, eq, all, to) pl =
          ap (λ y. has_ended (s'.rows (place_of y))) ex ∙ ap (λ (z : St). has_ended (z.rows (address n l))) to ∙ ended_one n l _
      go (Skip n l) ex (after, kind, de, fails, to) pl =
          ap (λ y. has_ended (s'.rows (place_of y))) ex ∙ ap (λ (z : St). has_ended (z.rows (address n l))) to
          ∙ ap (λ o. has_ended (or_else o (s.rows (address n l))))
          (when ((nat_eq n n || shows kind n) && same_at l l) (Some m.skipped) None
          (and_of (nat_eq n n || shows kind n) (same_at l l) (or_first (nat_eq n n) (shows kind n) (same_self n)) (same_self_at l)))
      go (Close n l) ex (after, kind, w, th, eq, may, to) pl =
          ap (λ y. has_ended (s'.rows (place_of y))) ex ∙ ap (λ (z : St). has_ended (z.rows (address n l))) to ∙ ended_one n l _
      go (Start n l) ex z pl = absurd (true≢false (sym pl ∙ ap places ex))
      go (Try n l) ex z pl = absurd (true≢false (sym pl ∙ ap places ex))
      go (Open n l) ex z pl = absurd (true≢false (sym pl ∙ ap places ex))
      go (Begin n l) ex z pl = absurd (true≢false (sym pl ∙ ap places ex))
      go (Test n l) ex z pl = absurd (true≢false (sym pl ∙ ap places ex))

  -- another one that stands in an open graph keeps what it has
  pub other_same : (q : ℕ) (j : List ℕ) (before : List Need) (other : Kind) → IsThere d m s q j before other
      → (places e && is_own (place_of e).name (place_of e).at (address q j)) ≡ false → s'.rows (address q j) ≡ s.rows (address q j)
  other_same q j before other th u = rows_else m d so f sol closed out s e s' b r st q j before other th u

  not_both : (a c : Bool) → c ≡ false → (a && c) ≡ false
  not_both true c h = h
  not_both false c h = refl

  -- THE COUNTS OF WHAT IS WAITED FOR
  pub waits_kept : (old new : Table ℕ)
      → ((n : ℕ) (i : List ℕ) (after : List Need) (kind : Kind) → IsThere d m s n i after kind
      → old (address n i) ≡ nonzero (waiting after i s.rows))
      → ((n : ℕ) (i : List ℕ) (after : List Need) (kind : Kind) → IsThere d m s' n i after kind
      → new (address n i) ≡ waits_after d m s e old (address n i))
      → (n : ℕ) (i : List ℕ) (after : List Need) (kind : Kind) → IsThere d m s' n i after kind
      → new (address n i) ≡ nonzero (waiting after i s'.rows)
  waits_kept old new was' now n i after kind th = ⊎_elim stayed entered (opened_or_new th.graph i th.is_open)
    where
      needs' : needs_of d n ≡ after
      needs' = (kind_there m d so f sol s'.opens th.graph i n after kind th.is_open th.is_in).1

      entered : IsNew th.graph i → new (address n i) ≡ nonzero (waiting after i s'.rows)
      entered z =
          now n i after kind th
          ∙ when (enters d s e (address n i)) _ _ (new_enters th.graph i z n (in_own th.graph n after kind th.is_in))
          ∙ ap (λ a. nonzero (length a)) needs'
          ∙ ap nonzero (sym (waits_all after i s'.rows (λ q nm.
          let t = closed s'.opens th.graph i n after kind th.is_open th.is_in q nm in
          new_empty th.graph i z q (in_own th.graph q t.0 t.1 t.2))))

      stayed : IsOpen m.taken d s.opens th.graph i → new (address n i) ≡ nonzero (waiting after i s'.rows)
      stayed og =
          now n i after kind th
          ∙ unless (enters d s e (address n i)) _ _ (not_true (enters d s e (address n i)) (λ t. entered_apart n i after kind th0 t))
          ∙ ⊎_elim looked free (two (places e && (is_named (needs_of d n) p.name && same_at p.at i)))
        where
          th0 : IsThere d m s n i after kind
          th0 = record { graph = th.graph; is_open = og; is_in = th.is_in }

          named_there : (q : ℕ) → Names after q → (a : List Need) × (c : Kind) × IsThere d m s q i a c
          named_there q nm =
              let t = closed s.opens th.graph i n after kind og th.is_in q nm in
              (t.0, t.1, record { graph = th.graph; is_open = og; is_in = t.2 })

          looked : (places e && (is_named (needs_of d n) p.name && same_at p.at i)) ≡ true
              → cond (places e && (is_named (needs_of d n) p.name && same_at p.at i))
              (less (times (needs_of d n) p.name) (old (address n i)))
              (old (address n i)) ≡ nonzero (waiting after i s'.rows)
          looked t =
              let pl = and_in (places e) (is_named (needs_of d n) p.name && same_at p.at i) t in
              let at = same_at_is p.at i (and_in (is_named (needs_of d n) p.name) (same_at p.at i) pl.1).1 in
              let ends : Ends (Names after) i p.name s.rows s'.rows = record {
                before = ap (λ j. has_ended (s.rows (address p.name j))) (sym at) ∙ ap has_ended (no_row_yet pl.0);
                after = ap (λ j. has_ended (s'.rows (address p.name j))) (sym at) ∙ has_row_then pl.0;
                others = λ q nm ne.
                    let it = named_there q nm in
                    ap has_ended (sym (other_same q i it.0 it.1 it.2 (not_both (places e) (is_own p.name p.at (address q i))
                    (not_true (is_own p.name p.at (address q i)) (λ u. true≢false (sym (same_name q u) ∙ ne))))));
              } in
              let fewer = counts_are.waits_for_less after i p.name s.rows s'.rows ends in
              let gone : waiting after i s.rows - times after p.name ≡ waiting after i s'.rows = omega (arith, fewer) in
              when (places e && (is_named (needs_of d n) p.name && same_at p.at i)) _ _ t
              ∙ ap (λ a. less (times a p.name) (old (address n i))) needs'
              ∙ ap (less (times after p.name)) (was' n i after kind th0)
              ∙ less_is (waiting after i s.rows) (times after p.name)
              ∙ ap nonzero gone
            where
              same_name : (q : ℕ) → is_own p.name p.at (address q i) ≡ true → nat_eq q p.name ≡ true
              same_name q u = ap (λ (z : Address). nat_eq z.name p.name) (sym (own_is p.name p.at (address q i) u)) ∙ same_self p.name

          free : (places e && (is_named (needs_of d n) p.name && same_at p.at i)) ≡ false
              → cond (places e && (is_named (needs_of d n) p.name && same_at p.at i))
              (less (times (needs_of d n) p.name) (old (address n i)))
              (old (address n i)) ≡ nonzero (waiting after i s'.rows)
          free u =
              unless (places e && (is_named (needs_of d n) p.name && same_at p.at i)) _ _ u
              ∙ was' n i after kind th0
              ∙ ap nonzero (waits_same after i s.rows s'.rows (λ q nm.
              let it = named_there q nm in
              sym (other_same q i it.0 it.1 it.2 (not_true (places e && is_own p.name p.at (address q i))
              (λ t. let x = and_in (places e) (is_own p.name p.at (address q i)) t in
              let is = own_is p.name p.at (address q i) x.1 in
              true≢false (sym (and_of (places e) (is_named (needs_of d n) p.name && same_at p.at i) x.0
              (and_of (is_named (needs_of d n) p.name) (same_at p.at i)
              (ap (λ a. is_named a p.name) needs' ∙ named after p.name (subst (λ (z : Address). Names after z.name) (sym is) nm))
              (subst (λ (z : Address). same_at z.at i ≡ true) (sym is) (same_self_at i)))) ∙ u))))))

  -- THE COUNTS OF WHAT LACKS A ROW

  -- names stand once in a graph whose answers are local
  mutual
    once_in : (kind : Kind) (n l : ℕ) → SoundIn m (SeenIn d) kind n l → OnceIn kind
    once_in Leaf n l h = tt
    once_in (Scope g) n l h = once_at g l h.2
    once_in (Choice bs) n l h = once_any bs l h.2
    once_in (Foreach pace g) n l h = once_at g (suc l) h.2
    once_in (Until most g) n l h = once_at g (suc l) h.3

    once_any : (bs : Branches) (l : ℕ) → SoundAny m (SeenIn d) bs l → OnceAny bs
    once_any no_branch l h = tt
    once_any (branch g rest) l h = (h.0, once_at g l h.1, once_any rest l h.2)

    once_at : (g : Graph) (l : ℕ) → Sound m (SeenIn d) g l → Once g
    once_at done l h = tt
    once_at (add n after kind rest) l h = (h.1, h.2, once_in kind n l h.3, once_at rest l h.4)

  pub inner_open : (n : ℕ) (i : List ℕ) (after : List Need) (kind : Kind) (u : Op) (h : Graph) (j : List ℕ) → IsThere d m s n i after kind
      → s.opens (address n i) ≡ Some u → IsInner m.taken u i kind h j → IsOpen m.taken d s.opens h j
  inner_open n i after _ u h _ th eu in_scope = scope th.is_open th.is_in eu
  inner_open n i after _ u h _ th eu (inner_taken is) = chosen th.is_open th.is_in eu is
  inner_open n i after _ u h _ th eu (in_turn j lt) = turn j th.is_open th.is_in eu lt
  inner_open n i after _ u h _ th eu (in_round j lt) = round j th.is_open th.is_in eu lt

  pub own_there : (g : Graph) (q : ℕ) → has_own g q ≡ true → (a : List Need) × (c : Kind) × In g q a c
  own_there done q h = absurd (true≢false (sym h))
  own_there (add n after kind rest) q h =
      ⊎_elim
      (λ t. subst (λ x. (a : List Need) × (c : Kind) × In (add n after kind rest) x a c) (eqb-true n q t) (after, kind, here))
      (λ u. let z = own_there rest q (sym (ap (λ x. x || has_own rest q) u) ∙ h) in (z.0, z.1, there z.2))
      (two (nat_eq n q))

  -- an inner graph was one before, or is the iteration that begins
  inner_back : (i j : List ℕ) (kind : Kind) (h : Graph) (u w : Op) → IsInner m.taken w i kind h j → u.decision ≡ w.decision
      → w.next ≤ suc u.next → IsInner m.taken u i kind h j ⊎ (j ≡ i ++ u.next ∷ [])
  inner_back i _ _ h u w in_scope same le = inl in_scope
  inner_back i _ _ h u w (inner_taken {bs = bs} is) same le = inl (inner_taken (ap (λ o. branch_at bs (m.taken o)) same ∙ is))
  inner_back i _ _ h u w (in_turn j lt) same le =
      ⊎_elim (λ t. inr (ap (λ x. i ++ x ∷ []) (eqb-true j u.next t)))
      (λ t. let ne = eqb-false j u.next t in inl (in_turn j (omega (arith, lt, le, ne)))) (two (nat_eq j u.next))
  inner_back i _ _ h u w (in_round j lt) same le =
      ⊎_elim (λ t. inr (ap (λ x. i ++ x ∷ []) (eqb-true j u.next t)))
      (λ t. let ne = eqb-false j u.next t in inl (in_round j (omega (arith, lt, le, ne)))) (two (nat_eq j u.next))

  inner_less : (i j : List ℕ) (kind : Kind) (h : Graph) (u w : Op) → IsInner m.taken w i kind h j → u.decision ≡ w.decision
      → w.next ≤ u.next → IsInner m.taken u i kind h j
  inner_less i _ _ h u w in_scope same le = in_scope
  inner_less i _ _ h u w (inner_taken {bs = bs} is) same le = inner_taken (ap (λ o. branch_at bs (m.taken o)) same ∙ is)
  inner_less i _ _ h u w (in_turn j lt) same le = in_turn j (omega (arith, lt, le))
  inner_less i _ _ h u w (in_round j lt) same le = in_round j (omega (arith, lt, le))

  -- of a graph that was open
  pub lacks_old : (old new : Table ℕ) → (n : ℕ) (i : List ℕ) (after : List Need) (kind : Kind) (u : Op) (h : Graph) (j : List ℕ)
      → AreLacksAfter d m s e s' old new → IsThere d m s n i after kind
      → s.opens (address n i) ≡ Some u → IsInner m.taken u i kind h j → old (address n j) ≡ nonzero (lacking h j s.rows)
      → new (address n j) ≡ nonzero (lacking h j s'.rows)
  lacks_old old new n i after kind u h j now th eu inner was' =
      ⊎_elim looked free (two (places e && (has_own h p.name && same_at p.at j)))
    where
      og : IsOpen m.taken d s.opens h j
      og = inner_open n i after kind u h j th eu inner

      own_in_it : (q : ℕ) → has_own h q ≡ true → (a : List Need) × (c : Kind) × IsThere d m s q j a c
      own_in_it q own = let z = own_there h q own in (z.0, z.1, record { graph = h; is_open = og; is_in = z.2 })

      kn : kind_of d n ≡ Some kind
      kn = kind_at n i after kind th

      looked : (places e && (has_own h p.name && same_at p.at j)) ≡ true → new (address n j) ≡ nonzero (lacking h j s'.rows)
      looked t =
          let pl = and_in (places e) (has_own h p.name && same_at p.at j) t in
          let o = and_in (has_own h p.name) (same_at p.at j) pl.1 in
          let at = same_at_is p.at j o.1 in
          let ends : Ends (λ q. has_own h q ≡ true) j p.name s.rows s'.rows = record {
            before = ap (λ x. has_ended (s.rows (address p.name x))) (sym at) ∙ ap has_ended (no_row_yet pl.0);
            after = ap (λ x. has_ended (s'.rows (address p.name x))) (sym at) ∙ has_row_then pl.0;
            others = λ q own ne.
                let it = own_in_it q own in
                ap has_ended (sym (other_same q j it.0 it.1 it.2 (not_both (places e) (is_own p.name p.at (address q j))
                (not_true (is_own p.name p.at (address q j)) (λ u'. true≢false (sym (same_name q u') ∙ ne))))));
          } in
          let fewer = counts_are.lacks_less h j p.name s.rows s'.rows
          (once_at h (length j) (open_sub m d so f sol s.opens h j og).sound) o.0 ends in
          let gone : lacking h j s.rows - 1 ≡ lacking h j s'.rows = omega (arith, fewer) in
          now.placed n i kind u h j kn eu inner t ∙ ap (less 1) was' ∙ less_is (lacking h j s.rows) 1 ∙ ap nonzero gone
        where
          same_name : (q : ℕ) → is_own p.name p.at (address q j) ≡ true → nat_eq q p.name ≡ true
          same_name q u' = ap (λ (z : Address). nat_eq z.name p.name) (sym (own_is p.name p.at (address q j) u')) ∙ same_self p.name

      free : (places e && (has_own h p.name && same_at p.at j)) ≡ false → new (address n j) ≡ nonzero (lacking h j s'.rows)
      free u' =
          now.others n i kind u h j kn eu inner u' ∙ was'
          ∙ ap nonzero (lacks_same h j s.rows s'.rows (λ q own.
          let it = own_in_it q own in
          sym (other_same q j it.0 it.1 it.2 (not_true (places e && is_own p.name p.at (address q j))
          (λ t. let x = and_in (places e) (is_own p.name p.at (address q j)) t in
          let is = own_is p.name p.at (address q j) x.1 in
          true≢false (sym (and_of (places e) (has_own h p.name && same_at p.at j) x.0
          (and_of (has_own h p.name) (same_at p.at j)
          (subst (λ (z : Address). has_own h z.name ≡ true) (sym is) own)
          (subst (λ (z : Address). same_at z.at j ≡ true) (sym is) (same_self_at j)))) ∙ u'))))))

  pub lacks_kept : (old new : Table ℕ)
      → ((n : ℕ) (i : List ℕ) (after : List Need) (kind : Kind) (w : Op) (h : Graph) (j : List ℕ) → IsThere d m s n i after kind
      → s.opens (address n i) ≡ Some w → IsInner m.taken w i kind h j → old (address n j) ≡ nonzero (lacking h j s.rows))
      → AreLacksAfter d m s e s' old new
      → (n : ℕ) (i : List ℕ) (after : List Need) (kind : Kind) (w : Op) (h : Graph) (j : List ℕ) → IsThere d m s' n i after kind
      → s'.opens (address n i) ≡ Some w → IsInner m.taken w i kind h j → new (address n j) ≡ nonzero (lacking h j s'.rows)
  lacks_kept old new was' now n i after kind w h j th ew inner =
      ⊎_elim stayed (λ z. absurd (not_new th.graph i z n after kind th.is_in w ew)) (opened_or_new th.graph i th.is_open)
    where
      stayed : IsOpen m.taken d s.opens th.graph i → new (address n j) ≡ nonzero (lacking h j s'.rows)
      stayed og =
          ⊎_elim
          (λ z. ⊎_elim
          (λ le. kept z.0 z.1 (inner_less i j kind h z.0 w inner z.2 le))
          (λ y. let nx = y.0 in ⊎_elim
          (λ back. kept z.0 z.1 back)
          (λ is. fresh' (record {
            container = n;
            at = i;
            after = after;
            kind = kind;
            opening = w;
            stood = th0;
            is_open = ew;
            inner = inner;
            how = inr (z.0, y.1, z.1, is);
          })
          (ap (λ x. new (address n x)) is
          ∙ now.begun n i kind z.0 w h y.1 kn z.1 ew (subst (λ x. IsInner m.taken w i kind h x) is inner)))
          (inner_back i j kind h z.0 w inner z.2 (omega (arith, nx))))
          z.3)
          (λ z. fresh' (record {
            container = n;
            at = i;
            after = after;
            kind = kind;
            opening = w;
            stood = th0;
            is_open = ew;
            inner = inner;
            how = inl z;
          }) (now.opened n i kind w h j z.1 kn ew inner))
          (was m d so f sol closed out s e s' k b r st n i w ew)
        where
          th0 : IsThere d m s n i after kind
          th0 = record { graph = th.graph; is_open = og; is_in = th.is_in }

          kn : kind_of d n ≡ Some kind
          kn = kind_at n i after kind th0

          kept : (u : Op) → s.opens (address n i) ≡ Some u → IsInner m.taken u i kind h j
              → new (address n j) ≡ nonzero (lacking h j s'.rows)
          kept u eu inn = lacks_old old new n i after kind u h j now th0 eu inn (was' n i after kind u h j th0 eu inn)

          fresh' : IsNew h j → new (address n j) ≡ nonzero (size h) → new (address n j) ≡ nonzero (lacking h j s'.rows)
          fresh' z is = is ∙ ap nonzero (sym (lacks_all h j s'.rows (λ q own. new_empty h j z q own)))

  -- what stands in an open graph of the new state where the event enters stands in the graph that is entered
  pub entered_is_new : (n : ℕ) (i : List ℕ) (after : List Need) (kind : Kind) (th : IsThere d m s' n i after kind)
      → enters d s e (address n i) ≡ true → IsNew th.graph i
  entered_is_new n i after kind th t =
      ⊎_elim
      (λ og. absurd (entered_apart n i after kind (record { graph = th.graph; is_open = og; is_in = th.is_in }) t))
      (λ z. z)
      (opened_or_new th.graph i th.is_open)

-- an open graph is the whole definition, or an inner one of an open container that stands in an open graph
pub inner_of_open : {Row Begun Decision Verdict : Type 0} (m : Source Row Begun Decision Verdict) (d : Graph)
    (s : State Row Begun Decision Verdict) (g : Graph) (i : List ℕ) → IsOpen m.taken d s.opens g i
    → ((g ≡ d) × (i ≡ []))
    ⊎ ((c : ℕ) × (j : List ℕ) × (after : List Need) × (kind : Kind) × (w : Opening Decision Verdict) × IsThere d m s c j after kind
    × (s.opens (address c j) ≡ Some w) × IsInner m.taken w j kind g i)
inner_of_open m d s _ _ top = inl (refl, refl)
inner_of_open m d s _ i (scope {g = g} {h = h} {n = c} {after = after} {w = w} og st e) =
    inr (c, i, after, Scope h, w, record { graph = g; is_open = og; is_in = st }, e, in_scope)
inner_of_open m d s _ i (chosen {g = g} {b = b} {n = c} {after = after} {bs = bs} {w = w} og st e is) =
    inr (c, i, after, Choice bs, w, record { graph = g; is_open = og; is_in = st }, e, inner_taken is)
inner_of_open m d s _ _ (turn {g = g} {h = h} {i = i} {n = c} {after = after} {pace = pace} {w = w} j og st e lt) =
    inr (c, i, after, Foreach pace h, w, record { graph = g; is_open = og; is_in = st }, e, in_turn j lt)
inner_of_open m d s _ _ (round {g = g} {h = h} {i = i} {n = c} {most = most} {after = after} {w = w} j og st e lt) =
    inr (c, i, after, Until most h, w, record { graph = g; is_open = og; is_in = st }, e, in_round j lt)

module _ {Row Begun Decision Verdict : Type 0} (d : Graph) (depth : ℕ → ℕ) (m : Source Row Begun Decision Verdict)
    (s : State Row Begun Decision Verdict) (reached : IsReached d depth m s) where
  -- THE LAW, of each reached state: edited counts are those of the new state
  pub counts_are_kept : (e : Event) (s' : State Row Begun Decision Verdict) → Step d m s e s' → (waits waits' lacks lacks' : Table ℕ)
      → AreCounts d m s waits lacks
      → ((n : ℕ) (i : List ℕ) (after : List Need) (kind : Kind) → IsThere d m s' n i after kind
      → waits' (address n i) ≡ waits_after d m s e waits (address n i))
      → AreLacksAfter d m s e s' lacks lacks' → AreCounts d m s' waits' lacks'
  counts_are_kept e s' st waits waits' lacks lacks' c edit after' =
      let k = known d depth m s reached in let f : Table Row = meaning m depth d in record {
        waited = waits_kept m d k.so f k.sol k.closed k.out s e s' k.keeps k.busy k.rooted st waits waits' c.waited edit;
        lacked = lacks_kept m d k.so f k.sol k.closed k.out s e s' k.keeps k.busy k.rooted st lacks lacks' c.lacked after';
      }
