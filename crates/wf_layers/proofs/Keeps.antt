-- What a state of the machine keeps, and how it does with more rows and more open containers.
use Rattle.std.proofs.Common.{◌≡◌, ℕ, ◌≤◌, Bool, true, false, ◌&&◌, ◌||◌, List, [], ◌∷◌, ◌++◌, Option, Some, None, ◌⊎◌, inl, inr, ⊎_elim, refl, sym, ap, ◌∙◌, subst, true≢false, length}
use Rattle.std.proofs.lemmas.Option.{none-some}
use Rattle.wf_layers.specs.Definition.{Need, Names, Kind, Leaf, Scope, Choice, Foreach, Until, Graph, holds, has, needs_of, kind_of, IsBefore, next, more}
use Rattle.wf_layers.specs.Address.{Address, address, Table, is_own, is_in, is_within, owner, earlier_in, SeenIn}
use Rattle.wf_layers.specs.Source.{Source, gate, Agrees, Sound}
use Rattle.wf_layers.specs.Rule.{Obeys}
use Rattle.wf_layers.proofs.Basics.{two, not_true, when, unless, own_in, none_inside}
use Rattle.wf_layers.proofs.Layers.{gate_same}
use Rattle.wf_layers.specs.Machine.{Running, Opening, State, In, IsOpen, top, scope, chosen, turn, round, has_ended, all_ended, place, one, without, opened}
use Rattle.wf_layers.proofs.Tables.{own_is, Within, one_is, one_within, place_split, place_none, place_agrees, place_fills, place_within, own_placed, without_split, opened_split, taken_has}
use Rattle.wf_layers.proofs.Places.{within_of}
use Rattle.wf_layers.specs.Facts.{OpenFact}
use Rattle.wf_layers.proofs.Open.{placed_in, open_sub, Passes, OpenFacts, kind_there, lift, lower_of, into_step, OpenBehind, seen_open}

module _ {Row Begun Decision Verdict : Type 0} (m : Source Row Begun Decision Verdict) (d : Graph) (so : Sound m (SeenIn d) d 0)
    (f : Table Row) (sol : Obeys m d f) where
  -- WHAT A STATE KEEPS

  -- kept, or a container that is closed again
  abbrev pub is_special : ℕ → Bool
  is_special n = m.pinned n || m.reclosed n

  -- such an action of an open graph has its row or is open from the start
  abbrev pub Special : Table Row → Table (Opening Decision Verdict) → Type 0
  Special t o =
      (g : Graph) (i : List ℕ) (n : ℕ) (after : List Need) (kind : Kind) → IsOpen m.taken d o g i → In g n after kind → is_special n ≡ true
      → t (address n i) ≡ None → o (address n i) ≡ None → ⊥

  -- what is round such an action is such
  abbrev pub SpecialOut : Type 0
  SpecialOut =
      (o : Table (Opening Decision Verdict)) (g : Graph) (i : List ℕ) (n : ℕ) (after : List Need) (kind : Kind) → IsOpen m.taken d o g i
      → In g n after kind → (q : ℕ) → holds kind q ≡ true → is_special q ≡ true → is_special n ≡ true

  -- a running leaf has begun as it does in f, and whatever rows its End sees that are those of f, it gives the row of f
  pub record Held (x : Address) (w : Running Begun) : Type 0 where
    pub is_leaf : kind_of d x.name ≡ Some Leaf
    pub as_begun : w.begun ≡ m.start x f
    pub so_far : w.tries ≤ m.tries x w.begun
    pub gives : (u : Table Row) → Agrees (SeenIn d) x u f → f x ≡ Some (m.finish x w.begun u)

  pub record Keeps (s : State Row Begun Decision Verdict) : Type 0 where
    pub placed : Within s.rows f
    pub held : (x : Address) (w : Running Begun) → s.running x ≡ Some w → Held x w
    pub behind : (x : Address) (r : Row) → s.rows x ≡ Some r → (y : Address) → SeenIn d x y → s.rows y ≡ f y
    pub subtree : (n : ℕ) (i : List ℕ) (r : Row) (kind : Kind) → s.rows (address n i) ≡ Some r → kind_of d n ≡ Some kind → (y : Address)
        → is_in n kind i y ≡ true → s.rows y ≡ f y
    pub run_behind : (x : Address) (w : Running Begun) → s.running x ≡ Some w → (y : Address) → SeenIn d x y → s.rows y ≡ f y
    pub run_rest : (n : ℕ) (i : List ℕ) (w : Running Begun) (kind : Kind) → s.running (address n i) ≡ Some w → kind_of d n ≡ Some kind
        → (y : Address) → is_in n kind i y ≡ true → is_own n i y ≡ false → s.rows y ≡ f y
    pub open_behind : (OpenBehind m d so f sol) s.rows s.opens
    pub facts : (OpenFacts m d so f sol) s.rows s.opens
    pub special : Special s.rows s.opens

  -- the actions that are named stand in the same graph
  abbrev pub IsClosed : Type 0
  IsClosed =
      (o : Table (Opening Decision Verdict)) (g : Graph) (i : List ℕ) (n : ℕ) (after : List Need) (kind : Kind) → IsOpen m.taken d o g i
      → In g n after kind → (p : ℕ) → Names after p → (a : List Need) × (k : Kind) × In g p a k

  pub ended_named : (ns : List Need) (i : List ℕ) (t : Table Row) (p : ℕ) → all_ended ns i t ≡ true → Names ns p
      → (r : Row) × (t (address p i) ≡ Some r)
  ended_named [] i t p e q = absurd q
  ended_named (n ∷ ns) i t p e q = go (λ e q. ended_named ns i t p e q) (t (address n.name i)) refl e q
    where
      go : (all_ended ns i t ≡ true → Names ns p → (r : Row) × (t (address p i) ≡ Some r)) → (o : Option Row) → t (address n.name i) ≡ o
          → (has_ended o && all_ended ns i t) ≡ true → (n.name ≡ p) ⊎ Names ns p → (r : Row) × (t (address p i) ≡ Some r)
      go rest None h e q = absurd (true≢false (sym e))
      go rest (Some r) h e (inl same) = (r, ap (λ x. t (address x i)) (sym same) ∙ h)
      go rest (Some r) h e (inr q) = rest e q

  module _ (closed : IsClosed) where
    -- what is in an ancestor of a decided action is settled
    pub decided_low : (s : State Row Begun Decision Verdict) → Keeps s → (g : Graph) (i : List ℕ) (n : ℕ) (after : List Need) (kind : Kind)
        → IsOpen m.taken d s.opens g i → In g n after kind → all_ended after i s.rows ≡ true → (y : Address) (c : ℕ)
        → is_within g i y ≡ true → owner g i y ≡ Some c → IsBefore d c n → s.rows y ≡ f y
    decided_low s k g i n after kind og st e y c wy oy (next nm) =
        let needs = ((kind_there m d so f sol) s.opens g i n after kind og st).1 in
        let nm' = subst (λ a. Names a c) needs nm in
        let r = ended_named after i s.rows c e nm' in
        let there' = closed s.opens g i n after kind og st c nm' in
        let pl = (placed_in m d so f sol) (length i) g c there'.0 there'.1 ((open_sub m d so f sol) s.opens g i og) there'.2 in
        k.subtree c i r.0 there'.1 r.1 ((kind_there m d so f sol) s.opens g i c there'.0 there'.1 og there'.2).0 y (pl.owns i y oy)
    decided_low s k g i n after kind og st e y c wy oy (more {q = q} b nm) =
        let needs = ((kind_there m d so f sol) s.opens g i n after kind og st).1 in
        let nm' = subst (λ a. Names a q) needs nm in
        let r = ended_named after i s.rows q e nm' in
        let there' = closed s.opens g i n after kind og st q nm' in
        let pl = (placed_in m d so f sol) (length i) g q there'.0 there'.1 ((open_sub m d so f sol) s.opens g i og) there'.2 in
        let own = own_in q there'.1 i in
        k.behind (address q i) r.0 r.1 y
        ((lift m d so f sol) s.opens g i og y (address q i) wy
        (within_of m (IsBefore d) (SeenIn d) (length i) g q there'.0 there'.1 pl i (address q i) own)
        (inl ((lower_of m d so f sol) (owner g i y) (owner g i (address q i)) c q oy (pl.owned i (address q i) own) b)))

    -- what a decided action, or one inside it, sees
    pub decided_sees : (s : State Row Begun Decision Verdict) → Keeps s → (g : Graph) (i : List ℕ) (n : ℕ) (after : List Need) (kind : Kind)
        → IsOpen m.taken d s.opens g i → In g n after kind → all_ended after i s.rows ≡ true → (y z : Address) → is_in n kind i z ≡ true
        → SeenIn d z y → ((is_in n kind i y ≡ true) × earlier_in (IsBefore d) kind i y z) ⊎ (s.rows y ≡ f y)
    decided_sees s k g i n after kind og st e y z inz see =
        let pl = (placed_in m d so f sol) (length i) g n after kind ((open_sub m d so f sol) s.opens g i og) st in
        (into_step m d so f sol) s.rows g i n after kind pl y z inz (λ c wy oy b. decided_low s k g i n after kind og st e y c wy oy b)
        ((seen_open m d so f sol) s.rows s.opens k.facts k.open_behind g i og y z
        (within_of m (IsBefore d) (SeenIn d) (length i) g n after kind pl i z inz) see)

    pub decided_own : (s : State Row Begun Decision Verdict) → Keeps s → (g : Graph) (i : List ℕ) (n : ℕ) (after : List Need) (kind : Kind)
        → IsOpen m.taken d s.opens g i → In g n after kind → all_ended after i s.rows ≡ true → (y : Address) → SeenIn d (address n i) y
        → s.rows y ≡ f y
    decided_own s k g i n after kind og st e y see =
        let pl = (placed_in m d so f sol) (length i) g n after kind ((open_sub m d so f sol) s.opens g i og) st in
        ⊎_elim (λ h. absurd (none_inside (IsBefore d) kind n i y pl.apart_own h.1)) (λ h. h)
        (decided_sees s k g i n after kind og st e y (address n i) (own_in n kind i) see)

    pub decided_gate : (s : State Row Begun Decision Verdict) → Keeps s → (g : Graph) (i : List ℕ) (n : ℕ) (after : List Need) (kind : Kind)
        → IsOpen m.taken d s.opens g i → In g n after kind → all_ended after i s.rows ≡ true → gate m after n i s.rows ≡ gate m after n i f
    decided_gate s k g i n after kind og st e =
        let pl = (placed_in m d so f sol) (length i) g n after kind ((open_sub m d so f sol) s.opens g i og) st in
        gate_same m (SeenIn d) after n (length i) pl.gated i refl s.rows f (decided_own s k g i n after kind og st e)

  -- more rows

  pub facts_more : (t u : Table Row) (o : Table (Opening Decision Verdict)) → ((y : Address) → t y ≡ f y → u y ≡ f y)
      → (OpenFacts m d so f sol) t o → (OpenFacts m d so f sol) u o
  facts_more t u o up h n i w kind e k = let r = h n i w kind e k in (r.0, go kind r.1)
    where
      go : (kind : Kind) → (OpenFact m f) t kind n i w → (OpenFact m f) u kind n i w
      go Leaf h = h
      go (Scope g) h = h
      go (Choice bs) h = (h.0, λ y q. up y (h.1 y q))
      go (Foreach pace g) h = (h.0, h.1, λ q j l y v. up y (h.2 q j l y v), h.3)
      go (Until most g) h = (
        h.0,
        λ j l. ((h.1 j l).0, λ y v. up y ((h.1 j l).1 y v)),
        λ b q. let r = h.2 b q in
            (r.0, r.1, r.2, λ y v. up y (r.3 y v)),
        h.3,
        h.4,
      )

  pub grow : (s : State Row Begun Decision Verdict) → Keeps s → (new : Table Row) → Within new f
      → ((x : Address) (r : Row) → new x ≡ Some r → (y : Address) → SeenIn d x y → place new s.rows y ≡ f y)
      → ((n : ℕ) (i : List ℕ) (r : Row) (kind : Kind) → new (address n i) ≡ Some r → kind_of d n ≡ Some kind → (y : Address)
      → is_in n kind i y ≡ true → place new s.rows y ≡ f y)
      → Keeps (record { rows = place new s.rows; running = s.running; opens = s.opens })
  grow s k new w behind subtree = record {
    placed = place_within new s.rows f w k.placed;
    held = k.held;
    behind = λ x r e y see. ⊎_elim (λ h. behind x r h y see) (λ h. up y (k.behind x r h y see)) (place_split new s.rows x r e);
    subtree =
        λ n i r kind e q y v. ⊎_elim (λ h. subtree n i r kind h q y v) (λ h. up y (k.subtree n i r kind h q y v))
        (place_split new s.rows (address n i) r e);
    run_behind = λ x r e y see. up y (k.run_behind x r e y see);
    run_rest = λ n i r kind e q y v o. up y (k.run_rest n i r kind e q y v o);
    open_behind = λ n i u e y see. up y (k.open_behind n i u e y see);
    facts = facts_more s.rows (place new s.rows) s.opens up k.facts;
    special = λ g i n after kind og st sp e. k.special g i n after kind og st sp (place_none new s.rows (address n i) e);
  }
    where
      up : (y : Address) → s.rows y ≡ f y → place new s.rows y ≡ f y
      up y e = place_agrees new s.rows f w y e

  -- where new rows are all of a region, as f has them
  pub pass_keeps : (s : State Row Begun Decision Verdict) → Keeps s → (new : Table Row) (region : Address → Bool)
      → ((y : Address) (r : Row) → new y ≡ Some r → region y ≡ true) → ((y : Address) → region y ≡ true → f y ≡ new y)
      → ((x y : Address) → region x ≡ true → SeenIn d x y → (region y ≡ true) ⊎ (s.rows y ≡ f y))
      → ((n : ℕ) (i : List ℕ) (r : Row) (kind : Kind) → new (address n i) ≡ Some r → kind_of d n ≡ Some kind → (y : Address)
      → is_in n kind i y ≡ true → region y ≡ true) → Keeps (record { rows = place new s.rows; running = s.running; opens = s.opens })
  pass_keeps s k new region some is sees inner =
      grow s k new within
      (λ x r e y see. ⊎_elim (λ h. fills y h) (λ h. place_agrees new s.rows f within y h) (sees x y (some x r e) see))
      (λ n i r kind e q y v. fills y (inner n i r kind e q y v))
    where
      within : Within new f
      within = record { by = λ y r e. is y (some y r e) ∙ e }

      fills : (y : Address) → region y ≡ true → place new s.rows y ≡ f y
      fills y h = place_fills new s.rows f k.placed y (is y h)

  pub drop_keeps : (s : State Row Begun Decision Verdict) → Keeps s → (n : ℕ) (i : List ℕ)
      → Keeps (record { rows = s.rows; running = without n i s.running; opens = s.opens })
  drop_keeps s k n i = record {
    placed = k.placed;
    held = λ x w e. k.held x w (without_split n i s.running x w e);
    behind = k.behind;
    subtree = k.subtree;
    run_behind = λ x r e. k.run_behind x r (without_split n i s.running x r e);
    run_rest = λ q j r kind e. k.run_rest q j r kind (without_split n i s.running (address q j) r e);
    open_behind = k.open_behind;
    facts = k.facts;
    special = k.special;
  }

  pub open_mono : (o u : Table (Opening Decision Verdict)) → ((x : Address) (w : (Opening Decision Verdict)) → o x ≡ Some w → u x ≡ Some w)
      → (g : Graph) (i : List ℕ) → IsOpen m.taken d o g i → IsOpen m.taken d u g i
  open_mono o u up _ _ top = top
  open_mono o u up _ i (scope {g = g} {n = n} {w = w} og st e) = scope (open_mono o u up g i og) st (up (address n i) w e)
  open_mono o u up _ i (chosen {g = g} {n = n} {w = w} og st e is) = chosen (open_mono o u up g i og) st (up (address n i) w e) is
  open_mono o u up _ _ (turn {g = g} {i = i} {n = n} {w = w} j og st e lt) = turn j (open_mono o u up g i og) st (up (address n i) w e) lt
  open_mono o u up _ _ (round {g = g} {i = i} {n = n} {w = w} j og st e lt) = round j (open_mono o u up g i og) st (up (address n i) w e) lt

  -- an open graph was open before, or is in the container that opens
  module _ (out : SpecialOut) where
    abbrev Plain : Graph → Type 0
    Plain g = (q : ℕ) → has g q ≡ true → is_special q ≡ false

    pub back_step : (o : Table (Opening Decision Verdict)) (n : ℕ) (i : List ℕ) (w : (Opening Decision Verdict)) → is_special n ≡ false
        → (g h : Graph) (l j : List ℕ) (c : ℕ) (after : List Need) (kind : Kind) (v : (Opening Decision Verdict))
        → IsOpen m.taken d (opened n i (Some w) o) g l → In g c after kind → opened n i (Some w) o (address c l) ≡ Some v
        → IsOpen m.taken d o g l ⊎ Plain g → ((q : ℕ) → has h q ≡ true → holds kind q ≡ true)
        → (IsOpen m.taken d o g l → o (address c l) ≡ Some v → IsOpen m.taken d o h j) → IsOpen m.taken d o h j ⊎ Plain h
    back_step o n i w sn g h l j c after kind v og st e ih inner again =
        ⊎_elim
        (λ og0. ⊎_elim (λ own. inr (plain (subst (λ (x : Address). is_special x.name ≡ false) own.0 sn))) (λ e0. inl (again og0 e0))
        (opened_split n i (Some w) o (address c l) v e))
        (λ pg. inr (plain (pg c
        ((placed_in m d so f sol) (length l) g c after kind ((open_sub m d so f sol) (opened n i (Some w) o) g l og) st).own_has)))
        ih
      where
        plain : is_special c ≡ false → Plain h
        plain sc q hq =
            not_true (is_special q) (λ t. true≢false (sym (out (opened n i (Some w) o) g l c after kind og st q (inner q hq) t) ∙ sc))

    pub open_back : (o : Table (Opening Decision Verdict)) (n : ℕ) (i : List ℕ) (w : (Opening Decision Verdict)) → is_special n ≡ false
        → (g : Graph) (j : List ℕ) → IsOpen m.taken d (opened n i (Some w) o) g j → IsOpen m.taken d o g j ⊎ Plain g
    open_back o n i w sn _ _ top = inl top
    open_back o n i w sn _ j (scope {g = g} {h = h} {n = c} {after = after} {w = v} og st e) =
        back_step o n i w sn g h j j c after (Scope h) v og st e (open_back o n i w sn g j og) (λ q hq. hq) (λ og0 e0. scope og0 st e0)
    open_back o n i w sn _ j (chosen {g = g} {b = b} {n = c} {after = after} {bs = bs} {w = v} og st e is) =
        back_step o n i w sn g b j j c after (Choice bs) v og st e (open_back o n i w sn g j og)
        (λ q hq. taken_has b bs (m.taken v.decision) is q hq) (λ og0 e0. chosen og0 st e0 is)
    open_back o n i w sn _ _ (turn {g = g} {h = h} {i = l} {n = c} {after = after} {pace = t} {w = v} j og st e lt) =
        back_step o n i w sn g h l (l ++ j ∷ []) c after (Foreach t h) v og st e (open_back o n i w sn g l og) (λ q hq. hq)
        (λ og0 e0. turn j og0 st e0 lt)
    open_back o n i w sn _ _ (round {g = g} {h = h} {i = l} {n = c} {most = most} {after = after} {w = v} j og st e lt) =
        back_step o n i w sn g h l (l ++ j ∷ []) c after (Until most h) v og st e (open_back o n i w sn g l og) (λ q hq. hq)
        (λ og0 e0. round j og0 st e0 lt)

  pub less_open : (s : State Row Begun Decision Verdict) → Keeps s → (n : ℕ) (i : List ℕ) → (s.rows (address n i) ≡ None → ⊥)
      → Keeps (record { rows = s.rows; running = s.running; opens = opened n i None s.opens })
  less_open s k n i has_row = record {
    placed = k.placed;
    held = k.held;
    behind = k.behind;
    subtree = k.subtree;
    run_behind = k.run_behind;
    run_rest = k.run_rest;
    open_behind = λ q j w e. k.open_behind q j w (still q j w e);
    facts = λ q j w kind e. k.facts q j w kind (still q j w e);
    special = λ g j q after kind og st sp e u. ⊎_elim
        (λ o. has_row (ap s.rows (own_is n i (address q j) o) ∙ e))
        (λ o. k.special g j q after kind (open_mono (opened n i None s.opens) s.opens (λ x w h. still x.name x.at w h) g j og) st sp e
        (sym (unless (is_own n i (address q j)) None (s.opens (address q j)) o) ∙ u))
        (two (is_own n i (address q j)));
  }
    where
      still : (q : ℕ) (j : List ℕ) (w : (Opening Decision Verdict)) → opened n i None s.opens (address q j) ≡ Some w
          → s.opens (address q j) ≡ Some w
      still q j w e = ⊎_elim (λ h. absurd (none-some w h.1)) (λ h. h) (opened_split n i None s.opens (address q j) w e)

  pub more_open : SpecialOut → (s : State Row Begun Decision Verdict) → Keeps s
      → (n : ℕ) (i : List ℕ) (w : (Opening Decision Verdict)) (kind : Kind) → is_special n ≡ false → kind_of d n ≡ Some kind
      → ((y : Address) → SeenIn d (address n i) y → s.rows y ≡ f y) → (Passes m d so f sol) n (needs_of d n) i
      → (OpenFact m f) s.rows kind n i w → Keeps (record { rows = s.rows; running = s.running; opens = opened n i (Some w) s.opens })
  more_open out s k n i w kind sn is sees pass fact = record {
    placed = k.placed;
    held = k.held;
    behind = k.behind;
    subtree = k.subtree;
    run_behind = k.run_behind;
    run_rest = k.run_rest;
    open_behind =
        λ q j u e. ⊎_elim (λ h. subst (λ (x : Address). (y : Address) → SeenIn d x y → s.rows y ≡ f y) h.0 sees)
        (λ h. k.open_behind q j u h) (opened_split n i (Some w) s.opens (address q j) u e);
    facts =
        λ q j u l e t. ⊎_elim (λ h. let v : w ≡ u = cc (h.1) in
        subst (λ (x : Address). FactAt x u) h.0 (subst (λ z. FactAt (address n i) z) v base) l t) (λ h. k.facts q j u l h t)
        (opened_split n i (Some w) s.opens (address q j) u e);
    special = λ g j q after kind og st sp e u.
        ⊎_elim
        (λ og0. k.special g j q after kind og0 st sp e (still q j u))
        (λ plain. true≢false
        (sym sp ∙ plain q ((placed_in m d so f sol) (length j) g q after kind
        ((open_sub m d so f sol) (opened n i (Some w) s.opens) g j og) st).own_has))
        (open_back out s.opens n i w sn g j og);
  }
    where
      still : (q : ℕ) (j : List ℕ) → opened n i (Some w) s.opens (address q j) ≡ None → s.opens (address q j) ≡ None
      still q j u =
          ⊎_elim (λ o. absurd (none-some w (sym u ∙ when (is_own n i (address q j)) (Some w) (s.opens (address q j)) o)))
          (λ o. sym (unless (is_own n i (address q j)) (Some w) (s.opens (address q j)) o) ∙ u) (two (is_own n i (address q j)))

      FactAt : Address → (Opening Decision Verdict) → Type 0
      FactAt x u =
          (l : Kind) → kind_of d x.name ≡ Some l
          → (Passes m d so f sol) x.name (needs_of d x.name) x.at × (OpenFact m f) s.rows l x.name x.at u

      base : FactAt (address n i) w
      base l e =
          let v : Some kind ≡ Some l = sym is ∙ e in let v' : kind ≡ l = cc in (pass, subst (λ z. (OpenFact m f) s.rows z n i w) v' fact)

  -- a row at an action whose inside is settled
  pub put_keeps : (s : State Row Begun Decision Verdict) → Keeps s → (n : ℕ) (i : List ℕ) (r : Row) → f (address n i) ≡ Some r
      → ((y : Address) → SeenIn d (address n i) y → s.rows y ≡ f y)
      → ((kind : Kind) → kind_of d n ≡ Some kind → (y : Address) → is_in n kind i y ≡ true → is_own n i y ≡ false → s.rows y ≡ f y)
      → Keeps (record { rows = place (one n i r) s.rows; running = s.running; opens = s.opens })
  put_keeps s k n i r is sees rest =
      grow s k (one n i r) within
      (λ x q h y see. up y (sees y (subst (λ (z : Address). SeenIn d z y) (sym (one_is n i r x q h).0) see)))
      (λ q j u kind h. subst (λ (x : Address). InAt x) (one_is n i r (address q j) u h).0 base kind)
    where
      within : Within (one n i r) f
      within = one_within n i r f is

      up : (y : Address) → s.rows y ≡ f y → place (one n i r) s.rows y ≡ f y
      up y e = place_agrees (one n i r) s.rows f within y e

      InAt : Address → Type 0
      InAt x =
          (kind : Kind) → kind_of d x.name ≡ Some kind → (y : Address) → is_in x.name kind x.at y ≡ true → place (one n i r) s.rows y ≡ f y

      base : InAt (address n i)
      base kind h y t = ⊎_elim (λ o. own_placed n i r s.rows f y is o) (λ o. up y (rest kind h y t o)) (two (is_own n i y))
