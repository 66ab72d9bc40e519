-- What holds in the open graphs of a state whose rows are those of a table f that obeys the rule.
use Rattle.std.proofs.Common.{◌≡◌, ℕ, zero, suc, ◌+◌, ◌<◌, ◌≤◌, Bool, true, false, ◌&&◌, ◌||◌, cond, List, [], ◌∷◌, ◌++◌, Option, Some, None, ◌⊎◌, inl, inr, ⊎_elim, refl, sym, ap, ◌∙◌, subst, arith, nat_eq, eqb-true, true≢false, length}
use Rattle.std.proofs.lemmas.Bool.{eqb-false}
use Rattle.wf_layers.specs.Definition.{Need, Kind, Scope, Choice, Foreach, Until, Graph, holds, has, needs_in, needs_of, kind_in, kind_of, IsBefore}
use Rattle.wf_layers.specs.Address.{Address, address, Table, starts, is_own, is_in, is_within, is_among, owner, Lower, earlier_in, IsEarlier, SeenIn}
use Rattle.wf_layers.specs.Source.{Source, gate, Sound}
use Rattle.wf_layers.specs.Meaning.{only, rounds, skip}
use Rattle.wf_layers.specs.Rule.{look_in, look_any, look, Obeys}
use Rattle.wf_layers.specs.Facts.{OpenFact}
use Rattle.wf_layers.proofs.Basics.{two, and_in, and_of, starts_outer, index_once, when, unless, own_in, held_in, inner_not_own, longer, sides_at}
use Rattle.wf_layers.specs.Machine.{Opening, In, IsOpen, top, scope, chosen, turn, round}
use Rattle.wf_layers.proofs.Tables.{taken_has, taken_within}
use Rattle.wf_layers.proofs.Places.{Stands, within_of, stands, taken_sound, taken_kind, taken_needs, taken_look, taken_joined, taken_joins}

-- THE MACHINE

module _ {Row Begun Decision Verdict : Type 0} (m : Source Row Begun Decision Verdict) (d : Graph) (so : Sound m (SeenIn d) d 0)
    (f : Table Row) (sol : Obeys m d f) where
  abbrev low : ℕ → ℕ → Type 0
  low = IsBefore d

  abbrev Sees : Address → Address → Type 0
  Sees = SeenIn d

  abbrev pub Placed : ℕ → Graph → ℕ → List Need → Kind → Type 0
  Placed l g n after kind = Stands m (IsBefore d) (SeenIn d) l g n after kind

  -- what is inside the graph is looked up there
  pub record Sub (l : ℕ) (g : Graph) : Type 0 where
    pub sound : Sound m (SeenIn d) g l
    pub kinds : (q : ℕ) → has g q ≡ true → kind_of d q ≡ kind_of g q
    pub needs : (q : ℕ) → has g q ≡ true → needs_of d q ≡ needs_of g q

  pub placed_in : (l : ℕ) (g : Graph) (n : ℕ) (after : List Need) (kind : Kind) → Sub l g → In g n after kind → Placed l g n after kind
  placed_in l g n after kind sub st = stands m (IsBefore d) (SeenIn d) l g n after kind sub.sound st

  -- from an action to a graph in it
  sub_in : (l : ℕ) (g h : Graph) (k n : ℕ) (after : List Need) (kind : Kind) → Sub k g → Placed k g n after kind → Sound m (SeenIn d) h l
      → ((q : ℕ) → has h q ≡ true → (holds kind q ≡ true) × (kind_in kind q ≡ kind_of h q) × (needs_in kind q ≡ needs_of h q)) → Sub l h
  sub_in l g h k n after kind sub pl sh inner = record {
    sound = sh;
    kinds = λ q e. let r = inner q e in sub.kinds q (pl.inner_has q r.0) ∙ pl.inner_kind q r.0 ∙ r.1;
    needs = λ q e. let r = inner q e in sub.needs q (pl.inner_has q r.0) ∙ pl.inner_needs q r.0 ∙ r.2;
  }

  pub open_sub : (o : Table (Opening Decision Verdict)) (g : Graph) (i : List ℕ) → IsOpen m.taken d o g i → Sub (length i) g
  open_sub o _ _ top = record { sound = so; kinds = λ q e. refl; needs = λ q e. refl }
  open_sub o _ i (scope {g = g} {h = h} {n = n} {after = after} og st e) =
      let sub = open_sub o g i og in let pl = placed_in (length i) g n after (Scope h) sub st in
      sub_in (length i) g h (length i) n after (Scope h) sub pl pl.sound.2 (λ q e. (e, refl, refl))
  open_sub o _ i (chosen {g = g} {b = b} {n = n} {after = after} {bs = bs} {w = w} og st e is) =
      let sub = open_sub o g i og in let pl = placed_in (length i) g n after (Choice bs) sub st in
      let c = m.taken w.decision in
      sub_in (length i) g b (length i) n after (Choice bs) sub pl (taken_sound m (IsBefore d) (SeenIn d) bs (length i) c b pl.sound.2 is)
      (λ q e. (
        taken_has b bs c is q e,
        taken_kind m (IsBefore d) (SeenIn d) bs (length i) c b pl.sound.2 is q e,
        taken_needs m (IsBefore d) (SeenIn d) bs (length i) c b pl.sound.2 is q e,
      ))
  open_sub o _ _ (turn {g = g} {h = h} {i = i} {n = n} {after = after} {pace = t} j og st e lt) =
      let sub = open_sub o g i og in let pl = placed_in (length i) g n after (Foreach t h) sub st in
      sub_in (length (i ++ j ∷ [])) g h (length i) n after (Foreach t h) sub pl
      (subst (λ x. Sound m (SeenIn d) h x) (sym (longer i j (length i) refl)) pl.sound.2) (λ q e. (e, refl, refl))
  open_sub o _ _ (round {g = g} {h = h} {i = i} {n = n} {most = most} {after = after} j og st e lt) =
      let sub = open_sub o g i og in let pl = placed_in (length i) g n after (Until most h) sub st in
      sub_in (length (i ++ j ∷ [])) g h (length i) n after (Until most h) sub pl
      (subst (λ x. Sound m (SeenIn d) h x) (sym (longer i j (length i) refl)) pl.sound.3) (λ q e. (e, refl, refl))

  -- an action that is neither kept nor skipped
  pub record Passes (n : ℕ) (after : List Need) (i : List ℕ) : Type 0 where
    pub free : m.pinned n ≡ false
    pub passes : (m.reclosed n || gate m after n i f) ≡ true

  -- what is known of the open containers
  abbrev pub OpenFacts : Table Row → Table (Opening Decision Verdict) → Type 0
  OpenFacts t o =
      (n : ℕ) (i : List ℕ) (w : Opening Decision Verdict) (kind : Kind) → o (address n i) ≡ Some w → kind_of d n ≡ Some kind
      → Passes n (needs_of d n) i × OpenFact m f t kind n i w

  -- the rule holds in each open graph
  abbrev pub Follows : Graph → List ℕ → Type 0
  Follows g i = (x : Address) → is_within g i x ≡ true → f x ≡ look m g i f x

  pub kind_there : (o : Table (Opening Decision Verdict)) (g : Graph) (i : List ℕ) (n : ℕ) (after : List Need) (kind : Kind)
      → IsOpen m.taken d o g i → In g n after kind → (kind_of d n ≡ Some kind) × (needs_of d n ≡ after)
  kind_there o g i n after kind og st =
      let sub = open_sub o g i og in let pl = placed_in (length i) g n after kind sub st in
      (sub.kinds n pl.own_has ∙ pl.own_kind, sub.needs n pl.own_has ∙ pl.own_needs)

  pub fact_of : (t : Table Row) (o : Table (Opening Decision Verdict)) → OpenFacts t o
      → (g : Graph) (i : List ℕ) (n : ℕ) (after : List Need) (kind : Kind) (w : Opening Decision Verdict) → IsOpen m.taken d o g i
      → In g n after kind → o (address n i) ≡ Some w → Passes n after i × OpenFact m f t kind n i w
  fact_of t o facts g i n after kind w og st e =
      let k = kind_there o g i n after kind og st in
      let h = facts n i w kind e k.0 in
      (subst (λ a. Passes n a i) k.1 h.0, h.1)

  -- at an address in an open container, by the container's rule
  pub obey_in : (g : Graph) (i : List ℕ) (n : ℕ) (after : List Need) (kind : Kind) → Placed (length i) g n after kind → Follows g i
      → Passes n after i → (x : Address) → is_in n kind i x ≡ true → f x ≡ look_in m kind n i f x
  obey_in g i n after kind pl ob pass x e =
      ob x (within_of m (IsBefore d) (SeenIn d) (length i) g n after kind pl i x e) ∙ pl.looked i f x e
      ∙ unless (m.pinned n) (m.old x) _ pass.free ∙ when (m.reclosed n || gate m after n i f) _ (skip m n kind i x) pass.passes

  pub rounds_reach : (most k j : ℕ) (p : ℕ → Bool) → ((h : ℕ) → h < j → p h ≡ false) → k ≤ j → j < k + most → j < rounds most k p
  rounds_reach zero k j p h le lt = absurd (omega arith)
  rounds_reach (suc most) k j p h le lt =
      ⊎_elim
      (λ t. let e = when (p k) (suc k) (rounds most (suc k) p) t in
      ⊎_elim (λ same. let s = eqb-true k j same in omega (arith, e, s)) (λ ne. let x : k < j = omega (arith, eqb-false k j ne) in
      absurd (true≢false (sym t ∙ h k x))) (two (nat_eq k j)))
      (λ u. let e = unless (p k) (suc k) (rounds most (suc k) p) u in
      ⊎_elim (λ same. let s = eqb-true k j same in let r = rounds_at_least most (suc k) p in omega (arith, e, s, r))
      (λ ne. let r = rounds_reach most (suc k) j p h (omega (arith, eqb-false k j ne)) (omega arith) in omega (arith, e, r))
      (two (nat_eq k j)))
      (two (p k))
    where
      rounds_at_least : (a b : ℕ) (q : ℕ → Bool) → b ≤ rounds a b q
      rounds_at_least zero b q = omega arith
      rounds_at_least (suc a) b q =
          ⊎_elim
          (λ t. let e = when (q b) (suc b) (rounds a (suc b) q) t in omega (arith, e))
          (λ u. let e = unless (q b) (suc b) (rounds a (suc b) q) u in let r = rounds_at_least a (suc b) q in omega (arith, e, r))
          (two (q b))

  pub inner_rule : (kind : Kind) (n : ℕ) (i : List ℕ) (r u : Option Row) (p : Bool) (x : Address) → holds kind n ≡ false
      → (holds kind x.name && starts i x.at) ≡ true → p ≡ true → cond (is_own n i x) r (only p u) ≡ u
  inner_rule kind n i r u p x nh w e =
      unless (is_own n i x) r _ (inner_not_own n kind i x nh (and_in (holds kind x.name) (starts i x.at) w).0) ∙ when p u None e

  pub outer : (h : Graph) (i : List ℕ) (j : ℕ) (y : Address) → is_within h (i ++ j ∷ []) y ≡ true → is_within h i y ≡ true
  outer h i j y w =
      let e = and_in (has h y.name) (starts (i ++ j ∷ []) y.at) w in and_of (has h y.name) (starts i y.at) e.0 (starts_outer i j y.at e.1)

  pub follows : (t : Table Row) (o : Table (Opening Decision Verdict)) → OpenFacts t o → (g : Graph) (i : List ℕ) → IsOpen m.taken d o g i
      → Follows g i
  follows t o facts _ _ top = sol
  follows t o facts _ i (scope {g = g} {h = h} {n = n} {after = after} {w = w} og st e) = λ x in_h.
      let pl = placed_in (length i) g n after (Scope h) (open_sub o g i og) st in
      let fact = fact_of t o facts g i n after (Scope h) w og st e in
      obey_in g i n after (Scope h) pl (follows t o facts g i og) fact.0 x (held_in n (Scope h) i x in_h)
      ∙ inner_rule (Scope h) n i _ _ (is_within h i x) x pl.apart_own in_h in_h
  follows t o facts _ i (chosen {g = g} {b = b} {n = n} {after = after} {bs = bs} {w = w} og st e is) = λ x in_b.
      let pl = placed_in (length i) g n after (Choice bs) (open_sub o g i og) st in
      let fact = fact_of t o facts g i n after (Choice bs) w og st e in
      let part = taken_within b bs (m.taken w.decision) is i x in_b in
      obey_in g i n after (Choice bs) pl (follows t o facts g i og) fact.0 x (held_in n (Choice bs) i x part)
      ∙ inner_rule (Choice bs) n i _ _ (is_among bs i x) x pl.apart_own part part
      ∙ ap (λ q. look_any m bs (m.taken q) i f x) (sym fact.1.0)
      ∙ taken_look m (IsBefore d) (SeenIn d) bs (length i) (m.taken w.decision) b pl.sound.2 is i f x in_b
  follows t o facts _ _ (turn {g = g} {h = h} {i = i} {n = n} {after = after} {pace = k} {w = w} j og st e lt) = λ x in_h.
      let pl = placed_in (length i) g n after (Foreach k h) (open_sub o g i og) st in
      let fact = fact_of t o facts g i n after (Foreach k h) w og st e in
      let part = outer h i j x in_h in
      let num = ap m.items fact.1.0 in let small : j < m.items (m.decide (address n i) f) = omega (arith, num, fact.1.1) in
      obey_in g i n after (Foreach k h) pl (follows t o facts g i og) fact.0 x (held_in n (Foreach k h) i x part)
      ∙ inner_rule (Foreach k h) n i _ _ (is_within h i x) x pl.apart_own part part
      ∙ sides_at (m.items (m.decide (address n i) f)) i (λ j t. look m h (i ++ j ∷ []) f) (λ y. None) x j small
      (and_in (has h x.name) (starts (i ++ j ∷ []) x.at) in_h).1
  follows t o facts _ _ (round {g = g} {h = h} {i = i} {n = n} {most = most} {after = after} {w = w} j og st e lt) = λ x in_h.
      let pl = placed_in (length i) g n after (Until most h) (open_sub o g i og) st in
      let fact = fact_of t o facts g i n after (Until most h) w og st e in
      let part = outer h i j x in_h in
      let small = rounds_reach most 0 j (λ j. m.ends (m.test (address n i) j f)) (λ q l. (fact.1.1 q (omega arith)).0) (omega arith)
      (omega (arith, fact.1.0)) in
      obey_in g i n after (Until most h) pl (follows t o facts g i og) fact.0 x (held_in n (Until most h) i x part)
      ∙ inner_rule (Until most h) n i _ _ (is_within h i x) x pl.apart_own part part
      ∙ sides_at (rounds most 0 (λ j. m.ends (m.test (address n i) j f))) i (λ j t. look m h (i ++ j ∷ []) f) (λ y. None) x j small
      (and_in (has h x.name) (starts (i ++ j ∷ []) x.at) in_h).1

  -- ORDER

  lift_step : (o : Table (Opening Decision Verdict)) (g : Graph) (i : List ℕ) (n : ℕ) (after : List Need) (kind : Kind)
      → Placed (length i) g n after kind
      → ((y z : Address) → is_within g i y ≡ true → is_within g i z ≡ true → IsEarlier (IsBefore d) g i y z → SeenIn d z y)
      → (y z : Address) → is_in n kind i y ≡ true → is_in n kind i z ≡ true → earlier_in (IsBefore d) kind i y z → SeenIn d z y
  lift_step o g i n after kind pl ih y z iny inz e =
      ih y z (within_of m (IsBefore d) (SeenIn d) (length i) g n after kind pl i y iny)
      (within_of m (IsBefore d) (SeenIn d) (length i) g n after kind pl i z inz) (inr (pl.joins i y z inz iny e))

  pub lift : (o : Table (Opening Decision Verdict)) (g : Graph) (i : List ℕ) → IsOpen m.taken d o g i → (y z : Address)
      → is_within g i y ≡ true → is_within g i z ≡ true → IsEarlier (IsBefore d) g i y z → SeenIn d z y
  lift o _ _ top = λ y z wy wz e. (wy, e)
  lift o _ i (scope {g = g} {h = h} {n = n} {after = after} og st e) = λ y z wy wz r.
      lift_step o g i n after (Scope h) (placed_in (length i) g n after (Scope h) (open_sub o g i og) st) (lift o g i og) y z
      (held_in n (Scope h) i y wy) (held_in n (Scope h) i z wz) (wy, wz, r)
  lift o _ i (chosen {g = g} {b = b} {n = n} {after = after} {bs = bs} {w = w} og st e is) = λ y z wy wz r.
      lift_step o g i n after (Choice bs) (placed_in (length i) g n after (Choice bs) (open_sub o g i og) st) (lift o g i og) y z
      (held_in n (Choice bs) i y (taken_within b bs (m.taken w.decision) is i y wy))
      (held_in n (Choice bs) i z (taken_within b bs (m.taken w.decision) is i z wz))
      (taken_joins m (IsBefore d) (SeenIn d) bs (m.taken w.decision) b is i y z wy wz r)
  lift o _ _ (turn {g = g} {h = h} {i = i} {n = n} {after = after} {pace = k} j og st e lt) = λ y z wy wz r.
      lift_step o g i n after (Foreach k h) (placed_in (length i) g n after (Foreach k h) (open_sub o g i og) st) (lift o g i og) y z
      (held_in n (Foreach k h) i y (outer h i j y wy)) (held_in n (Foreach k h) i z (outer h i j z wz)) (inl (j, wy, wz, r))
  lift o _ _ (round {g = g} {h = h} {i = i} {n = n} {most = most} {after = after} j og st e lt) = λ y z wy wz r.
      lift_step o g i n after (Until most h) (placed_in (length i) g n after (Until most h) (open_sub o g i og) st) (lift o g i og) y z
      (held_in n (Until most h) i y (outer h i j y wy)) (held_in n (Until most h) i z (outer h i j z wz)) (inl (j, wy, wz, r))

  pub lower_split : (a b : Option ℕ) (n : ℕ) → b ≡ Some n → Lower (IsBefore d) a b → (c : ℕ) × (a ≡ Some c) × IsBefore d c n
  lower_split None b n e l = absurd l
  lower_split (Some c) None n e l = absurd l
  lower_split (Some c) (Some k) n e l = let same : k ≡ n = cc in (c, refl, subst (λ x. IsBefore d c x) same l)

  pub lower_of : (a b : Option ℕ) (c n : ℕ) → a ≡ Some c → b ≡ Some n → IsBefore d c n → Lower (IsBefore d) a b
  lower_of a b c n e h l = subst (λ x. Lower (IsBefore d) x b) (sym e) (subst (λ x. Lower (IsBefore d) (Some c) x) (sym h) l)

  abbrev pub Into : Table Row → Graph → List ℕ → Address → Address → Type 0
  Into t g i y z = ((is_within g i y ≡ true) × IsEarlier (IsBefore d) g i y z) ⊎ (t y ≡ f y)

  -- from a graph into one of its actions
  pub into_step : (t : Table Row) (g : Graph) (i : List ℕ) (n : ℕ) (after : List Need) (kind : Kind) → Placed (length i) g n after kind
      → (y z : Address) → is_in n kind i z ≡ true → ((c : ℕ) → is_within g i y ≡ true → owner g i y ≡ Some c → IsBefore d c n → t y ≡ f y)
      → Into t g i y z → ((is_in n kind i y ≡ true) × earlier_in (IsBefore d) kind i y z) ⊎ (t y ≡ f y)
  into_step t g i n after kind pl y z inz low_case q =
      ⊎_elim
      (λ h. ⊎_elim
      (λ l. let r = lower_split (owner g i y) (owner g i z) n (pl.owned i z inz) l in inr (low_case r.0 h.0 r.1 r.2))
      (λ tog. inl (pl.joined i y z inz tog))
      h.1)
      (λ r. inr r)
      q

  abbrev pub OpenBehind : Table Row → Table (Opening Decision Verdict) → Type 0
  OpenBehind t o =
      (n : ℕ) (i : List ℕ) (w : Opening Decision Verdict) → o (address n i) ≡ Some w → (y : Address) → SeenIn d (address n i) y → t y ≡ f y

  pub turn_of : (h : Graph) (i : List ℕ) (a b : ℕ) (z : Address) → is_within h (i ++ a ∷ []) z ≡ true → is_within h (i ++ b ∷ []) z ≡ true
      → a ≡ b
  turn_of h i a b z u v =
      index_once i a b z.at (and_in (has h z.name) (starts (i ++ a ∷ []) z.at) u).1 (and_in (has h z.name) (starts (i ++ b ∷ []) z.at) v).1

  pub open_step : (t : Table Row) (o : Table (Opening Decision Verdict)) → OpenBehind t o
      → (g : Graph) (i : List ℕ) (n : ℕ) (after : List Need) (kind : Kind) (w : Opening Decision Verdict) → IsOpen m.taken d o g i
      → Placed (length i) g n after kind → o (address n i) ≡ Some w → (y z : Address) → is_in n kind i z ≡ true → Into t g i y z
      → ((is_in n kind i y ≡ true) × earlier_in (IsBefore d) kind i y z) ⊎ (t y ≡ f y)
  open_step t o behind g i n after kind w og pl e y z inz q =
      let own = own_in n kind i in
      into_step t g i n after kind pl y z inz
      (λ c wy oy l. behind n i w e y
      (lift o g i og y (address n i) wy (within_of m (IsBefore d) (SeenIn d) (length i) g n after kind pl i (address n i) own)
      (inl (lower_of (owner g i y) (owner g i (address n i)) c n oy (pl.owned i (address n i) own) l))))
      q

  -- what a point in an open graph sees outside it is settled
  pub seen_open : (t : Table Row) (o : Table (Opening Decision Verdict)) → OpenFacts t o → OpenBehind t o → (g : Graph) (i : List ℕ)
      → IsOpen m.taken d o g i → (y z : Address) → is_within g i z ≡ true → SeenIn d z y → Into t g i y z
  seen_open t o facts behind _ _ top = λ y z wz see. inl see
  seen_open t o facts behind _ i (scope {g = g} {h = h} {n = n} {after = after} {w = w} og st e) = λ y z wz see.
      let inz = held_in n (Scope h) i z wz in
      let pl = placed_in (length i) g n after (Scope h) (open_sub o g i og) st in
      ⊎_elim
      (λ q. inl (q.1.0, q.1.2))
      (λ r. inr r)
      (open_step t o behind g i n after (Scope h) w og pl e y z inz
      (seen_open t o facts behind g i og y z (within_of m (IsBefore d) (SeenIn d) (length i) g n after (Scope h) pl i z inz) see))
  seen_open t o facts behind _ i (chosen {g = g} {b = b} {n = n} {after = after} {bs = bs} {w = w} og st e is) = λ y z wz see.
      let inz = held_in n (Choice bs) i z (taken_within b bs (m.taken w.decision) is i z wz) in
      let pl = placed_in (length i) g n after (Choice bs) (open_sub o g i og) st in
      ⊎_elim
      (λ q. inl (taken_joined m (IsBefore d) (SeenIn d) bs (length i) (m.taken w.decision) b pl.sound.2 is i y z wz q.1))
      (λ r. inr r)
      (open_step t o behind g i n after (Choice bs) w og pl e y z inz
      (seen_open t o facts behind g i og y z (within_of m (IsBefore d) (SeenIn d) (length i) g n after (Choice bs) pl i z inz) see))
  seen_open t o facts behind _ _ (turn {g = g} {h = h} {i = i} {n = n} {after = after} {pace = k} {w = w} j og st e lt) = λ y z wz see.
      let inz = held_in n (Foreach k h) i z (outer h i j z wz) in
      let pl = placed_in (length i) g n after (Foreach k h) (open_sub o g i og) st in
      let fact = fact_of t o facts g i n after (Foreach k h) w og st e in
      ⊎_elim
      (λ q. ⊎_elim
      (λ r. let same = turn_of h i r.0 j z r.2 wz in
      inl (subst (λ x. is_within h (i ++ x ∷ []) y ≡ true) same r.1, subst (λ x. IsEarlier (IsBefore d) h (i ++ x ∷ []) y z) same r.3))
      (λ r. let same = turn_of h i r.1 j z r.5 wz in let l = r.3 in inr (fact.1.2 r.2 r.0 (omega (arith, same, l)) y r.4))
      q.1)
      (λ r. inr r)
      (open_step t o behind g i n after (Foreach k h) w og pl e y z inz
      (seen_open t o facts behind g i og y z (within_of m (IsBefore d) (SeenIn d) (length i) g n after (Foreach k h) pl i z inz) see))
  seen_open t o facts behind _ _ (round {g = g} {h = h} {i = i} {n = n} {most = most} {after = after} {w = w} j og st e lt) = λ y z wz see.
      let inz = held_in n (Until most h) i z (outer h i j z wz) in
      let pl = placed_in (length i) g n after (Until most h) (open_sub o g i og) st in
      let fact = fact_of t o facts g i n after (Until most h) w og st e in
      ⊎_elim
      (λ q. ⊎_elim
      (λ r. let same = turn_of h i r.0 j z r.2 wz in
      inl (subst (λ x. is_within h (i ++ x ∷ []) y ≡ true) same r.1, subst (λ x. IsEarlier (IsBefore d) h (i ++ x ∷ []) y z) same r.3))
      (λ r. let same = turn_of h i r.1 j z r.4 wz in let l = r.2 in inr ((fact.1.1 r.0 (omega (arith, same, l))).1 y r.3))
      q.1)
      (λ r. inr r)
      (open_step t o behind g i n after (Until most h) w og pl e y z inz
      (seen_open t o facts behind g i og y z (within_of m (IsBefore d) (SeenIn d) (length i) g n after (Until most h) pl i z inz) see))
