-- Facts of tests, indexes and addresses.
use Rattle.std.proofs.Common.{◌≡◌, ℕ, zero, suc, ◌<◌, ◌≤◌, Bool, true, false, ◌&&◌, ◌||◌, cond, List, [], ◌∷◌, ◌++◌, Option, Some, None, ◌⊎◌, inl, inr, ⊎_elim, refl, sym, ap, ◌∙◌, subst, arith, nat_eq, eq-eqb, eqb-true, true≢false, length, length-append}
use Rattle.std.proofs.lemmas.Bool.{eqb-false}
use Rattle.wf_layers.specs.Definition.{Need, Pace, InTurn, AtMost, Kind, Leaf, Scope, Choice, Foreach, Until, Branches, no_branch, branch, Graph, done, add, holds, has, has_any}
use Rattle.wf_layers.specs.Address.{Address, address, Table, same_at, starts, is_own, is_in, is_within, is_among, owner, Lower, earlier_in, earlier_any}
use Rattle.wf_layers.specs.Meaning.{only, sides, rounds, deepest, rank}

-- TESTS

pub two : (b : Bool) → (b ≡ true) ⊎ (b ≡ false)
two true = inl refl
two false = inr refl

pub and_in : (a b : Bool) → (a && b) ≡ true → (a ≡ true) × (b ≡ true)
and_in true b e = (refl, e)
and_in false b e = absurd (true≢false (sym e))

pub and_of : (a b : Bool) → a ≡ true → b ≡ true → (a && b) ≡ true
and_of a b e f = ap (λ x. x && b) e ∙ f

pub front : (p q r : Bool) → (p && r) ≡ true → ((p || q) && r) ≡ true
front true q r e = e
front false q r e = absurd (true≢false (sym e))

pub back : (p q r : Bool) → (q && r) ≡ true → ((p || q) && r) ≡ true
back true q r e = (and_in q r e).1
back false q r e = e

pub fork : (p q r : Bool) → ((p || q) && r) ≡ true → (p && r) ≡ false → (q && r) ≡ true
fork true q r e n = absurd (true≢false (sym e ∙ n))
fork false q r e n = e

pub apart : (p q r : Bool) → (p ≡ true → q ≡ false) → (q && r) ≡ true → (p && r) ≡ false
apart true q r h e = absurd (true≢false (sym (and_in q r e).0 ∙ h refl))
apart false q r h e = refl

pub either : (p q : Bool) → (p || q) ≡ true → (p ≡ true) ⊎ (q ≡ true)
either true q e = inl refl
either false q e = inr e

pub or_first : (p q : Bool) → p ≡ true → (p || q) ≡ true
or_first p q e = ap (λ z. z || q) e

pub or_second : (p q : Bool) → q ≡ true → (p || q) ≡ true
or_second true q e = refl
or_second false q e = e

pub not_true : (b : Bool) → (b ≡ true → ⊥) → b ≡ false
not_true true h = absurd (h refl)
not_true false h = refl

pub same_self : (n : ℕ) → nat_eq n n ≡ true
same_self n = eq-eqb n n refl

-- INDEXES

pub starts_self : (i : List ℕ) → starts i i ≡ true
starts_self [] = refl
starts_self (a ∷ i) = and_of (nat_eq a a) (starts i i) (same_self a) (starts_self i)

pub same_self_at : (i : List ℕ) → same_at i i ≡ true
same_self_at [] = refl
same_self_at (a ∷ i) = and_of (nat_eq a a) (same_at i i) (same_self a) (same_self_at i)

pub starts_outer : (i : List ℕ) (j : ℕ) (at : List ℕ) → starts (i ++ j ∷ []) at ≡ true → starts i at ≡ true
starts_outer [] j at e = refl
starts_outer (a ∷ i) j [] e = e
starts_outer (a ∷ i) j (b ∷ at) e =
    let h = and_in (nat_eq a b) (starts (i ++ j ∷ []) at) e in and_of (nat_eq a b) (starts i at) h.0 (starts_outer i j at h.1)

pub index_once : (i : List ℕ) (j m : ℕ) (at : List ℕ) → starts (i ++ j ∷ []) at ≡ true → starts (i ++ m ∷ []) at ≡ true → j ≡ m
index_once [] j m [] e f = absurd (true≢false (sym e))
index_once [] j m (b ∷ at) e f =
    let x = eqb-true j b (and_in (nat_eq j b) (starts [] at) e).0 in
    let y = eqb-true m b (and_in (nat_eq m b) (starts [] at) f).0 in omega arith
index_once (a ∷ i) j m [] e f = absurd (true≢false (sym e))
index_once (a ∷ i) j m (b ∷ at) e f =
    index_once i j m at (and_in (nat_eq a b) (starts (i ++ j ∷ []) at) e).1 (and_in (nat_eq a b) (starts (i ++ m ∷ []) at) f).1

pub when {ℓ} : {A : Type ℓ} (b : Bool) (u v : A) → b ≡ true → cond b u v ≡ u
when b u v e = ap (λ x. cond x u v) e

pub unless {ℓ} : {A : Type ℓ} (b : Bool) (u v : A) → b ≡ false → cond b u v ≡ v
unless b u v e = ap (λ x. cond x u v) e

pub only_same : {Row : Type 0} (b : Bool) (r q : Option Row) → (b ≡ true → r ≡ q) → only b r ≡ only b q
only_same true r q h = h refl
only_same false r q h = refl

pub cond_same : {Row : Type 0} (b : Bool) (r q u v : Option Row) → (b ≡ true → r ≡ q) → (b ≡ false → u ≡ v) → cond b r u ≡ cond b q v
cond_same true r q u v h g = h refl
cond_same false r q u v h g = g refl

-- ADDRESSES OF A GRAPH

pub in_within : (n : ℕ) (after : List Need) (kind : Kind) (rest : Graph) (i : List ℕ) (y : Address) → is_in n kind i y ≡ true
    → is_within (add n after kind rest) i y ≡ true
in_within n after kind rest i y e = front (nat_eq n y.name || holds kind y.name) (has rest y.name) (starts i y.at) e

pub rest_within : (n : ℕ) (after : List Need) (kind : Kind) (rest : Graph) (i : List ℕ) (y : Address) → is_within rest i y ≡ true
    → is_within (add n after kind rest) i y ≡ true
rest_within n after kind rest i y e = back (nat_eq n y.name || holds kind y.name) (has rest y.name) (starts i y.at) e

pub other_within : (n : ℕ) (after : List Need) (kind : Kind) (rest : Graph) (i : List ℕ) (y : Address)
    → is_within (add n after kind rest) i y ≡ true → is_in n kind i y ≡ false → is_within rest i y ≡ true
other_within n after kind rest i y e f = fork (nat_eq n y.name || holds kind y.name) (has rest y.name) (starts i y.at) e f

pub own_in : (n : ℕ) (kind : Kind) (i : List ℕ) → is_in n kind i (address n i) ≡ true
own_in n kind i = and_of (nat_eq n n || holds kind n) (starts i i) (ap (λ x. x || holds kind n) (same_self n)) (starts_self i)

pub held_in : (n : ℕ) (kind : Kind) (i : List ℕ) (y : Address) → (holds kind y.name && starts i y.at) ≡ true → is_in n kind i y ≡ true
held_in n kind i y e = back (nat_eq n y.name) (holds kind y.name) (starts i y.at) e

pub inner_not_own : (n : ℕ) (kind : Kind) (i : List ℕ) (y : Address) → holds kind n ≡ false → holds kind y.name ≡ true
    → is_own n i y ≡ false
inner_not_own n kind i y nh h =
    not_true (is_own n i y) (λ e. let same = eqb-true n y.name (and_in (nat_eq n y.name) (same_at i y.at) e).0 in
    true≢false (sym h ∙ ap (λ m. holds kind m) (sym same) ∙ nh))

module _ (depth : ℕ → ℕ) where
  abbrev pub depth_of : Option ℕ → ℕ
  depth_of None = 0
  depth_of (Some a) = depth a

  pub rank_below : (g : Graph) (i : List ℕ) (y : Address) → is_within g i y ≡ true → rank depth g i y < deepest depth g
  rank_below done i y e = absurd (true≢false (sym e))
  rank_below (add n after kind rest) i y e =
      ⊎_elim
      (λ t. let r : rank depth (add n after kind rest) i y ≡ depth n = when (is_in n kind i y) (depth n) (rank depth rest i y) t in
      omega (arith, r))
      (λ f. let r : rank depth (add n after kind rest) i y ≡ rank depth rest i y =
      unless (is_in n kind i y) (depth n) (rank depth rest i y) f in
      let h = rank_below rest i y (other_within n after kind rest i y e f) in omega (arith, r, h))
      (two (is_in n kind i y))

  pub rank_owner : (g : Graph) (i : List ℕ) (y : Address) (o : Option ℕ) → owner g i y ≡ o → rank depth g i y ≡ depth_of o
  rank_owner done i y o e = ap depth_of e
  rank_owner (add n after kind rest) i y o e =
      ⊎_elim
      (λ t. when (is_in n kind i y) (depth n) (rank depth rest i y) t
      ∙ ap depth_of (sym (when (is_in n kind i y) (Some n) (owner rest i y) t) ∙ e))
      (λ u. unless (is_in n kind i y) (depth n) (rank depth rest i y) u
      ∙ rank_owner rest i y o (sym (unless (is_in n kind i y) (Some n) (owner rest i y) u) ∙ e))
      (two (is_in n kind i y))

  pub falls_rank : (low : ℕ → ℕ → Type 0) → ((a b : ℕ) → low a b → depth a < depth b) → (g : Graph) (i : List ℕ) (y z : Address)
      → Lower low (owner g i y) (owner g i z) → rank depth g i y < rank depth g i z
  falls_rank low falls g i y z l = go (owner g i y) (owner g i z) refl refl l
    where
      go : (o q : Option ℕ) → owner g i y ≡ o → owner g i z ≡ q → Lower low o q → rank depth g i y < rank depth g i z
      go None q e h l = absurd l
      go (Some a) None e h l = absurd l
      go (Some a) (Some b) e h l =
          let x = rank_owner g i y (Some a) e in let v = rank_owner g i z (Some b) h in let m : depth a < depth b = falls a b l in
          omega arith

module _ (low : ℕ → ℕ → Type 0) where
  -- what is earlier in one of the branches is in one of them
  pub any_within : (bs : Branches) (i : List ℕ) (y z : Address) → earlier_any low bs i y z
      → (is_among bs i y ≡ true) × (is_among bs i z ≡ true)
  any_within no_branch i y z e = absurd e
  any_within (branch b rest) i y z e =
      ⊎_elim
      (λ h. (
        front (has b y.name) (has_any rest y.name) (starts i y.at) h.0,
        front (has b z.name) (has_any rest z.name)
            (starts i z.at) h.1,
      ))
      (λ h. let r = any_within rest i y z h in
      (back (has b y.name) (has_any rest y.name) (starts i y.at) r.0, back (has b z.name) (has_any rest z.name) (starts i z.at) r.1))
      e

  -- an action sees nothing inside itself
  pub none_inside : (kind : Kind) (n : ℕ) (i : List ℕ) (y : Address) → holds kind n ≡ false → earlier_in low kind i y (address n i) → ⊥
  none_inside Leaf n i y nh e = e
  none_inside (Scope g) n i y nh e = true≢false (sym (and_in (has g n) (starts i i) e.1).0 ∙ nh)
  none_inside (Choice bs) n i y nh e = true≢false (sym (and_in (has_any bs n) (starts i i) (any_within bs i y (address n i) e).1).0 ∙ nh)
  none_inside (Foreach pace g) n i y nh e =
      ⊎_elim
      (λ h. true≢false (sym (and_in (has g n) (starts (i ++ h.0 ∷ []) i) h.2).0 ∙ nh))
      (λ h. true≢false (sym (and_in (has g n) (starts (i ++ h.1 ∷ []) i) h.5).0 ∙ nh))
      e
  none_inside (Until most g) n i y nh e =
      ⊎_elim
      (λ h. true≢false (sym (and_in (has g n) (starts (i ++ h.0 ∷ []) i) h.2).0 ∙ nh))
      (λ h. true≢false (sym (and_in (has g n) (starts (i ++ h.1 ∷ []) i) h.4).0 ∙ nh))
      e

pub longer : (i : List ℕ) (j l : ℕ) → length i ≡ l → length (i ++ j ∷ []) ≡ suc l
longer i j l e = omega (arith, length-append i (j ∷ []), e)

pub outer_of : (g : Graph) (i : List ℕ) (j : ℕ) (y : Address) → is_within g (i ++ j ∷ []) y ≡ true → is_within g i y ≡ true
outer_of g i j y w =
    let h = and_in (has g y.name) (starts (i ++ j ∷ []) y.at) w in and_of (has g y.name) (starts i y.at) h.0 (starts_outer i j y.at h.1)

-- ITERATIONS

pub some_turn : (c : ℕ) (i at : List ℕ) → ((j : ℕ) × (j < c) × (starts (i ++ j ∷ []) at ≡ true))
    ⊎ ((j : ℕ) → j < c → starts (i ++ j ∷ []) at ≡ false)
some_turn zero i at = inr (λ j lt. absurd (omega arith))
some_turn (suc c) i at =
    ⊎_elim
    (λ h. inl (h.0, omega (arith, h.1), h.2))
    (λ h. ⊎_elim (λ t. inl (c, omega arith, t))
    (λ f. inr (λ j lt. ⊎_elim (λ e. ap (λ m. starts (i ++ m ∷ []) at) (eqb-true j c e) ∙ f) (λ ne. h j (less j lt ne))
    (two (nat_eq j c)))) (two (starts (i ++ c ∷ []) at)))
    (some_turn c i at)
  where
    less : (j : ℕ) → j < suc c → nat_eq j c ≡ false → j < c
    less j lt ne = omega (arith, eqb-false j c ne)

pub sides_out : {Row : Type 0} (c : ℕ) (i : List ℕ) (body : ℕ → Table Row → Table Row) (k : Table Row) (y : Address)
    → ((j : ℕ) → j < c → starts (i ++ j ∷ []) y.at ≡ false) → sides c i body k y ≡ k y
sides_out zero i body k y h = refl
sides_out (suc c) i body k y h =
    unless (starts (i ++ c ∷ []) y.at) (body c k y) (sides c i body k y) (h c (omega arith))
    ∙ sides_out c i body k y (λ j lt. h j (omega arith))

pub sides_at : {Row : Type 0} (c : ℕ) (i : List ℕ) (body : ℕ → Table Row → Table Row) (k : Table Row) (y : Address) (j : ℕ) → j < c
    → starts (i ++ j ∷ []) y.at ≡ true → sides c i body k y ≡ body j k y
sides_at zero i body k y j lt e = absurd (omega arith)
sides_at (suc c) i body k y j lt e =
    ⊎_elim
    (λ t. when (starts (i ++ c ∷ []) y.at) (body c k y) (sides c i body k y) t ∙ ap (λ m. body m k y) (index_once i c j y.at t e))
    (λ f. unless (starts (i ++ c ∷ []) y.at) (body c k y) (sides c i body k y) f ∙ sides_at c i body k y j (less f) e)
    (two (starts (i ++ c ∷ []) y.at))
  where
    less : starts (i ++ c ∷ []) y.at ≡ false → j < c
    less f = let ne : j ≡ c → ⊥ = λ m. true≢false (sym e ∙ ap (λ m. starts (i ++ m ∷ []) y.at) m ∙ f) in omega arith

pub rounds_above : (m j : ℕ) (p : ℕ → Bool) → j ≤ rounds m j p
rounds_above zero j p = omega arith
rounds_above (suc m) j p =
    ⊎_elim
    (λ t. let e = when (p j) (suc j) (rounds m (suc j) p) t in omega (arith, e))
    (λ f. let e = unless (p j) (suc j) (rounds m (suc j) p) f in let h = rounds_above m (suc j) p in omega (arith, e, h))
    (two (p j))

pub rounds_more : (m j : ℕ) (p : ℕ → Bool) → j < rounds (suc m) j p
rounds_more m j p =
    ⊎_elim
    (λ t. let e = when (p j) (suc j) (rounds m (suc j) p) t in omega (arith, e))
    (λ f. let e = unless (p j) (suc j) (rounds m (suc j) p) f in let h = rounds_above m (suc j) p in omega (arith, e, h))
    (two (p j))

pub rounds_same : (m j : ℕ) (p q : ℕ → Bool) → ((h : ℕ) → j ≤ h → h < rounds m j p → p h ≡ q h) → rounds m j p ≡ rounds m j q
rounds_same zero j p q same = refl
rounds_same (suc m) j p q same =
    let e = same j (omega arith) (rounds_more m j p) in
    ⊎_elim
    (λ t. when (p j) (suc j) (rounds m (suc j) p) t ∙ sym (when (q j) (suc j) (rounds m (suc j) q) (sym e ∙ t)))
    (λ f. let x = unless (p j) (suc j) (rounds m (suc j) p) f in
    x ∙ rounds_same m (suc j) p q (λ h le lt. same h (omega arith) (subst (λ c. h < c) (sym x) lt))
    ∙ sym (unless (q j) (suc j) (rounds m (suc j) q) (sym e ∙ f)))
    (two (p j))

-- BRANCHES

pub among_here : (b : Graph) (rest : Branches) (i : List ℕ) (y : Address) → is_within b i y ≡ true → is_among (branch b rest) i y ≡ true
among_here b rest i y w = front (has b y.name) (has_any rest y.name) (starts i y.at) w

pub among_there : (b : Graph) (rest : Branches) (i : List ℕ) (y : Address) → is_among rest i y ≡ true → is_among (branch b rest) i y ≡ true
among_there b rest i y w = back (has b y.name) (has_any rest y.name) (starts i y.at) w

pub beside_not : {most : ℕ} → AtMost most ≡ InTurn → ⊥
beside_not {most} e = true≢false (ap is_beside e)
  where
    is_beside : Pace → Bool
    is_beside InTurn = false
    is_beside (AtMost most) = true
