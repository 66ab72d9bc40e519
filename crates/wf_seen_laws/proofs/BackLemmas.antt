-- What is seen is earlier by the loops round both: where an index differs, it is the lesser one in a loop that goes one iteration after the
-- other; where none differs, the one is before the other.
use Rattle.std.proofs.Common.{◌≡◌, ℕ, ◌<◌, Bool, true, false, ◌&&◌, ◌||◌, cond, List, [], ◌∷◌, ◌++◌, Option, Some, None, ◌⊎◌, inl, inr}
use Rattle.std.proofs.Common.{refl, sym, ap, ◌∙◌, subst, arith, true≢false, nat_eq, eqb-true}
use Rattle.std.specs.Prelude.{nat_lt}
use Rattle.std.proofs.lemmas.Bool.{lt-ltb}
use Rattle.std.proofs.lemmas.Option.{none-some}
use Rattle.wf_layers.specs.Definition.{Pace, InTurn, Kind, Leaf, Scope, Choice, Foreach, Until, Branches, no_branch, branch, Graph, done}
use Rattle.wf_layers.specs.Definition.{add, holds, has, has_any}
use Rattle.wf_layers.specs.Address.{Address, starts, is_in, owner, Lower, earlier_in, earlier_any, together}
use Rattle.wf_layers.specs.Seen.{Once, OnceIn, OnceAny}
use Rattle.wf_layers.proofs.Basics.{two, and_in, and_of, or_second, same_self, when, unless}
use Rattle.wf_loops.specs.Order.{Among, around, around_any, around_in, up}
use Rattle.wf_loops.specs.Loops.{is_earlier, is_in_turn, paces_any, paces_in, paces_round}
use Rattle.wf_loops.proofs.HeldLemmas.{paces_none, not_own, passed}
use Rattle.wf_loops.proofs.NameLemmas.{earlier_has, earlier_has_any, together_has, within_has, within_starts}

-- ---- indexes behind those of a graph

pub record Next (i at : List ℕ) (j : ℕ) (xs : List ℕ) : Type 0 where
  pub more : List ℕ
  pub first : xs ≡ j ∷ more
  pub goes : at ≡ (i ++ j ∷ []) ++ more

first_next : (j : ℕ) (xs at : List ℕ) → starts (j ∷ []) at ≡ true → at ≡ xs → Next [] at j xs
first_next j xs [] s is = absurd (true≢false (sym s))
first_next j xs (a ∷ at) s is =
    let same = eqb-true j a (and_in (nat_eq j a) (starts [] at) s).0 in record {
      more = at;
      first = sym is ∙ ap (λ (k : ℕ). k ∷ at) (sym same);
      goes = ap (λ (k : ℕ). k ∷ at) (sym same);
    }

tail_is : {a b : ℕ} {as' bs : List ℕ} → a ∷ as' ≡ b ∷ bs → as' ≡ bs
tail_is e = cc

pub next_of : (i at : List ℕ) (j : ℕ) (xs : List ℕ) → starts (i ++ j ∷ []) at ≡ true → at ≡ i ++ xs → Next i at j xs
next_of [] at j xs s is = first_next j xs at s is
next_of (a ∷ i) [] j xs s is = absurd (true≢false (sym s))
next_of (a ∷ i) (b ∷ at) j xs s is =
    let h = and_in (nat_eq a b) (starts (i ++ j ∷ []) at) s in
    let n = next_of i at j xs h.1 (tail_is is) in record {
      more = n.more;
      first = n.first;
      goes = ap (λ (k : ℕ). k ∷ at) (sym (eqb-true a b h.0)) ∙ ap (λ (ks : List ℕ). a ∷ ks) n.goes;
    }

less_differs : (j m : ℕ) → j < m → nat_eq j m ≡ false
less_differs j m lt = elim (two (nat_eq j m)) [
  | inl t ↦ absurd (omega (arith, lt, eqb-true j m t))
  | inr f ↦ f
]

or_off : (b c : Bool) → (b || c) ≡ false → (b ≡ false) × (c ≡ false)
or_off true c e = absurd (true≢false e)
or_off false c e = (refl, e)

no_both : (b c : Bool) → c ≡ false → (b && c) ≡ false
no_both true c f = f
no_both false c f = refl

-- ---- where one isn't, no loop is round both

pub none_first : (g : Graph) (x y : ℕ) → has g x ≡ false → paces_round g x y ≡ []
none_first done x y off = refl
none_first (add m after kind rest) x y off =
    let gone = or_off (nat_eq m x || holds kind x) (has rest x) off in
    unless (holds kind x && holds kind y) (paces_in kind x y) (paces_round rest x y)
    (ap (λ (b : Bool). b && holds kind y) (or_off (nat_eq m x) (holds kind x) gone.0).1)
    ∙ none_first rest x y gone.1

-- ---- the action of a graph in which an address lies is the address's own, or round it

-- the action, after the containers round it
abbrev pub up_in : Kind → ℕ → List ℕ
up_in kind m = around_in kind m ++ m ∷ []

abbrev pub up_any : Branches → ℕ → List ℕ
up_any bs m = around_any bs m ++ m ∷ []

moved : (xs ys : List ℕ) (m c : ℕ) → xs ≡ ys → Among (ys ++ m ∷ []) c → Among (xs ++ m ∷ []) c
moved xs ys m c same among = subst (λ (zs : List ℕ). Among (zs ++ m ∷ []) c) (sym same) among

pub inner_up : (n : ℕ) (after : _) (kind : Kind) (rest : Graph) → holds kind n ≡ false → (m c : ℕ) → holds kind m ≡ true
    → Among (up_in kind m) c → Among (up (add n after kind rest) m) c
inner_up n after kind rest off m c held among =
    moved (around (add n after kind rest) m) (n ∷ around_in kind m) m c
    (unless (nat_eq n m) [] (cond (holds kind m) (n ∷ around_in kind m) (around rest m)) (not_own m n kind off held)
    ∙ when (holds kind m) (n ∷ around_in kind m) (around rest m) held)
    (inr among)

pub rest_up : (n : ℕ) (after : _) (kind : Kind) (rest : Graph) (m c : ℕ) → nat_eq n m ≡ false → holds kind m ≡ false
    → Among (up rest m) c → Among (up (add n after kind rest) m) c
rest_up n after kind rest m c other out among =
    moved (around (add n after kind rest) m) (around rest m) m c
    (unless (nat_eq n m) [] (cond (holds kind m) (n ∷ around_in kind m) (around rest m)) other
    ∙ unless (holds kind m) (n ∷ around_in kind m) (around rest m) out)
    among

first_up : (n : ℕ) (after : _) (kind : Kind) (rest : Graph) (m : ℕ) → (nat_eq n m || holds kind m) ≡ true
    → Among (up (add n after kind rest) m) n
first_up n after kind rest m is = elim (two (nat_eq n m)) [
  | inl t ↦ moved (around (add n after kind rest) m) [] m n
      (when (nat_eq n m) [] (cond (holds kind m) (n ∷ around_in kind m) (around rest m)) t) (inl (sym (eqb-true n m t)))
  | inr f ↦ moved (around (add n after kind rest) m) (n ∷ around_in kind m) m n
      (unless (nat_eq n m) [] (cond (holds kind m) (n ∷ around_in kind m) (around rest m)) f
      ∙ when (holds kind m) (n ∷ around_in kind m) (around rest m) (second f))
      (inl refl)
]
  where
    second : nat_eq n m ≡ false → holds kind m ≡ true
    second f = sym (ap (λ (b : Bool). b || holds kind m) f) ∙ is

some_is : {a b : ℕ} → Some a ≡ Some b → a ≡ b
some_is e = cc

-- an address that begins with a graph's indexes and isn't in the first action
out_of : (n : ℕ) (kind : Kind) (i : List ℕ) (y : Address) → is_in n kind i y ≡ false → starts i y.at ≡ true
    → (nat_eq n y.name ≡ false) × (holds kind y.name ≡ false)
out_of n kind i y off s =
    or_off (nat_eq n y.name) (holds kind y.name) (elim (two (nat_eq n y.name || holds kind y.name)) [
      | inl t ↦ absurd (true≢false (sym (and_of (nat_eq n y.name || holds kind y.name) (starts i y.at) t s) ∙ off))
      | inr f ↦ f
    ])

pub owner_up : (g : Graph) (i : List ℕ) (y : Address) (c : ℕ) → starts i y.at ≡ true → owner g i y ≡ Some c → Among (up g y.name) c
owner_up done i y c s is = absurd (none-some c is)
owner_up (add n after kind rest) i y c s is = elim (two (is_in n kind i y)) [
  | inl t ↦ subst (λ (k : ℕ). Among (up (add n after kind rest) y.name) k)
      (some_is (sym (when (is_in n kind i y) (Some n) (owner rest i y) t) ∙ is))
      (first_up n after kind rest y.name (and_in (nat_eq n y.name || holds kind y.name) (starts i y.at) t).0)
  | inr f ↦
      let out = out_of n kind i y f s in
      rest_up n after kind rest y.name c out.0 out.1
      (owner_up rest i y c s (sym (unless (is_in n kind i y) (Some n) (owner rest i y) f) ∙ is))
]

-- ---- in different actions of a graph no loop of it is round both

pub apart_paces : (g : Graph) (i : List ℕ) → Once g → (x z : Address) → starts i x.at ≡ true → starts i z.at ≡ true
    → (owner g i x ≡ owner g i z → ⊥) → paces_round g x.name z.name ≡ []
apart_paces done i once x z s t differ = refl
apart_paces (add n after kind rest) i once x z s t differ = elim (two (holds kind x.name && holds kind z.name)) [
  | inl both ↦
      let h = and_in (holds kind x.name) (holds kind z.name) both in
      absurd (differ (when (is_in n kind i x) (Some n) (owner rest i x)
      (and_of (nat_eq n x.name || holds kind x.name) (starts i x.at) (or_second (nat_eq n x.name) (holds kind x.name) h.0) s)
      ∙ sym (when (is_in n kind i z) (Some n) (owner rest i z)
      (and_of (nat_eq n z.name || holds kind z.name) (starts i z.at) (or_second (nat_eq n z.name) (holds kind z.name) h.1) t))))
  | inr f ↦ unless (holds kind x.name && holds kind z.name) (paces_in kind x.name z.name) (paces_round rest x.name z.name) f
      ∙ further (λ d. apart_paces rest i once.3 x z s t d)
]
  where
    behind : (y : Address) → has rest y.name ≡ true → is_in n kind i y ≡ false
    behind y there =
        let p = passed n kind rest once.1 y.name there in
        ap (λ (b : Bool). (b || holds kind y.name) && starts i y.at) p.0 ∙ ap (λ (b : Bool). b && starts i y.at) p.1

    further : ((owner rest i x ≡ owner rest i z → ⊥) → paces_round rest x.name z.name ≡ []) → paces_round rest x.name z.name ≡ []
    further deeper = elim (two (has rest x.name)) [
      | inr off ↦ none_first rest x.name z.name off
      | inl hx ↦ elim (two (has rest z.name)) [
        | inr off ↦ paces_none rest x.name z.name off
        | inl hz ↦ deeper
            (λ same. differ (unless (is_in n kind i x) (Some n) (owner rest i x) (behind x hx)
            ∙ (same ∙ sym (unless (is_in n kind i z) (Some n) (owner rest i z) (behind z hz)))))
      ]
    ]

-- ---- THE LAW, inside a graph: x is seen by z

module _ (low : ℕ → ℕ → Type 0) (never : (a : ℕ) → low a a → ⊥) (x z : Address) (b : Bool) where
  -- where an action round x is lower than one round z, b tells so
  abbrev pub Tells : List ℕ → List ℕ → Type 0
  Tells round_x round_z = (a c : ℕ) → Among round_x a → Among round_z c → low a c → b ≡ true

  abbrev pub At : List ℕ → List ℕ → Address → Type 0
  At i xs y = y.at ≡ i ++ xs

  at_starts : (i xs : List ℕ) (y : Address) → At i xs y → starts i y.at ≡ true
  at_starts [] xs y is = refl
  at_starts (a ∷ i) xs y is = subst (λ (at : List ℕ). starts (a ∷ i) at ≡ true) (sym is) (front (a ∷ i) xs)
    where
      front : (i xs : List ℕ) → starts i (i ++ xs) ≡ true
      front [] xs = refl
      front (a ∷ i) xs = and_of (nat_eq a a) (starts i (i ++ xs)) (same_self a) (front i xs)

  abbrev pub Earlier : List Pace → List ℕ → List ℕ → Type 0
  Earlier ps xs zs = is_earlier ps xs zs b ≡ true

  lowest : (g : Graph) (i xs zs : List ℕ) → Once g → At i xs x → At i zs z → Tells (up g x.name) (up g z.name)
      → (o q : Option ℕ) → owner g i x ≡ o → owner g i z ≡ q → Lower low o q → Earlier (paces_round g x.name z.name) xs zs
  lowest g i xs zs once is js tells None q of_x of_z lower = absurd lower
  lowest g i xs zs once is js tells (Some a) None of_x of_z lower = absurd lower
  lowest g i xs zs once is js tells (Some a) (Some c) of_x of_z lower =
      let s = at_starts i xs x is in
      let t = at_starts i zs z js in
      ap (λ (ps : List Pace). is_earlier ps xs zs b) (apart_paces g i once x z s t
      (λ same. never a (subst (λ (k : ℕ). low a k) (sym (some_is (sym of_x ∙ (same ∙ of_z)))) lower)))
      ∙ tells a c (owner_up g i x a s of_x) (owner_up g i z c t of_z) lower

  -- in a loop, in one iteration
  same_turn : (pace : Pace) (ps : List Pace) (i xs zs : List ℕ) (j : ℕ) → At i xs x → At i zs z → starts (i ++ j ∷ []) x.at ≡ true
      → starts (i ++ j ∷ []) z.at ≡ true
      → ((us vs : List ℕ) → At (i ++ j ∷ []) us x → At (i ++ j ∷ []) vs z → Earlier ps us vs) → Earlier (pace ∷ ps) xs zs
  same_turn pace ps i xs zs j is js s t deeper =
      let n = next_of i x.at j xs s is in
      let m = next_of i z.at j zs t js in
      ap (λ (us : List ℕ). is_earlier (pace ∷ ps) us zs b) n.first
      ∙ (ap (λ (vs : List ℕ). is_earlier (pace ∷ ps) (j ∷ n.more) vs b) m.first
      ∙ (when (nat_eq j j) (is_earlier ps n.more m.more b) (is_in_turn pace && nat_lt j j) (same_self j)
      ∙ deeper n.more m.more n.goes m.goes))

  -- and in an earlier one
  earlier_turn : (pace : Pace) (ps : List Pace) (i xs zs : List ℕ) (j m : ℕ) → At i xs x → At i zs z → starts (i ++ j ∷ []) x.at ≡ true
      → starts (i ++ m ∷ []) z.at ≡ true → pace ≡ InTurn → j < m → Earlier (pace ∷ ps) xs zs
  earlier_turn pace ps i xs zs j m is js s t turn lt =
      let n = next_of i x.at j xs s is in
      let o = next_of i z.at m zs t js in
      ap (λ (us : List ℕ). is_earlier (pace ∷ ps) us zs b) n.first
      ∙ (ap (λ (vs : List ℕ). is_earlier (pace ∷ ps) (j ∷ n.more) vs b) o.first
      ∙ (unless (nat_eq j m) (is_earlier ps n.more o.more b) (is_in_turn pace && nat_lt j m) (less_differs j m lt)
      ∙ and_of (is_in_turn pace) (nat_lt j m) (ap is_in_turn turn) (lt-ltb j m lt)))

  -- by actions of the graph, or inside one of them
  either_way : (g : Graph) (i xs zs : List ℕ) → Once g → At i xs x → At i zs z → Tells (up g x.name) (up g z.name)
      → (together low g i x z → Earlier (paces_round g x.name z.name) xs zs)
      → Lower low (owner g i x) (owner g i z) ⊎ together low g i x z → Earlier (paces_round g x.name z.name) xs zs
  either_way g i xs zs once is js tells deeper (inl lower) =
      lowest g i xs zs once is js tells (owner g i x) (owner g i z) refl refl lower
  either_way g i xs zs once is js tells deeper (inr h) = deeper h

  branched : (g : Graph) (i xs zs : List ℕ) → Once g → At i xs x → At i zs z
      → (Tells (up g x.name) (up g z.name) → together low g i x z → Earlier (paces_round g x.name z.name) xs zs)
      → Tells (up g x.name) (up g z.name)
      → Lower low (owner g i x) (owner g i z) ⊎ together low g i x z → Earlier (paces_round g x.name z.name) xs zs
  branched g i xs zs once is js deeper tells e = either_way g i xs zs once is js tells (deeper tells) e

  mutual
    pub back_in : (kind : Kind) (i xs zs : List ℕ) → OnceIn kind → At i xs x → At i zs z → Tells (up_in kind x.name) (up_in kind z.name)
        → earlier_in low kind i x z → Earlier (paces_in kind x.name z.name) xs zs
    back_in Leaf i xs zs once is js tells e = absurd e
    back_in (Scope g) i xs zs once is js tells e = either_way g i xs zs once is js tells
        (λ t. back_together g i xs zs once is js tells t) e.2
    back_in (Choice bs) i xs zs once is js tells e = back_any bs i xs zs once is js tells e
    back_in (Foreach pace g) i xs zs once is js tells (inl h) =
        same_turn pace (paces_round g x.name z.name) i xs zs h.0 is js (within_starts g (i ++ h.0 ∷ []) x h.1)
        (within_starts g (i ++ h.0 ∷ []) z h.2) (λ us vs p q. either_way g (i ++ h.0 ∷ []) us vs once p q tells
        (λ t. back_together g (i ++ h.0 ∷ []) us vs once p q tells t) h.3)
    back_in (Foreach pace g) i xs zs once is js tells (inr h) =
        earlier_turn pace (paces_round g x.name z.name) i xs zs h.0 h.1 is js (within_starts g (i ++ h.0 ∷ []) x h.4)
        (within_starts g (i ++ h.1 ∷ []) z h.5) h.2 h.3
    back_in (Until most g) i xs zs once is js tells (inl h) =
        same_turn InTurn (paces_round g x.name z.name) i xs zs h.0 is js (within_starts g (i ++ h.0 ∷ []) x h.1)
        (within_starts g (i ++ h.0 ∷ []) z h.2) (λ us vs p q. either_way g (i ++ h.0 ∷ []) us vs once p q tells
        (λ t. back_together g (i ++ h.0 ∷ []) us vs once p q tells t) h.3)
    back_in (Until most g) i xs zs once is js tells (inr h) =
        earlier_turn InTurn (paces_round g x.name z.name) i xs zs h.0 h.1 is js (within_starts g (i ++ h.0 ∷ []) x h.3)
        (within_starts g (i ++ h.1 ∷ []) z h.4) refl h.2

    pub back_any : (bs : Branches) (i xs zs : List ℕ) → OnceAny bs → At i xs x → At i zs z → Tells (up_any bs x.name) (up_any bs z.name)
        → earlier_any low bs i x z → Earlier (paces_any bs x.name z.name) xs zs
    back_any no_branch i xs zs once is js tells e = absurd e
    back_any (branch c rest) i xs zs once is js tells (inl h) =
        let hx = within_has c i x h.0 in
        let hz = within_has c i z h.1 in
        ap (λ (ps : List Pace). is_earlier ps xs zs b)
        (when (has c x.name && has c z.name) (paces_round c x.name z.name) (paces_any rest x.name z.name)
        (and_of (has c x.name) (has c z.name) hx hz))
        ∙ branched c i xs zs once.1 is js (λ t. back_together c i xs zs once.1 is js t)
        (λ a d p q. tells a d
        (moved (around_any (branch c rest) x.name) (around c x.name) x.name a
        (when (has c x.name) (around c x.name) (around_any rest x.name) hx) p)
        (moved (around_any (branch c rest) z.name) (around c z.name) z.name d
        (when (has c z.name) (around c z.name) (around_any rest z.name) hz) q))
        h.2
    back_any (branch c rest) i xs zs once is js tells (inr h) =
        let there = earlier_has_any low rest i x z h in
        let fx = off x.name there.0 in
        let fz = off z.name there.1 in
        ap (λ (ps : List Pace). is_earlier ps xs zs b)
        (unless (has c x.name && has c z.name) (paces_round c x.name z.name) (paces_any rest x.name z.name)
        (ap (λ (k : Bool). k && has c z.name) fx))
        ∙ back_any rest i xs zs once.2 is js
        (λ a d p q. tells a d
        (moved (around_any (branch c rest) x.name) (around_any rest x.name) x.name a
        (unless (has c x.name) (around c x.name) (around_any rest x.name) fx) p)
        (moved (around_any (branch c rest) z.name) (around_any rest z.name) z.name d
        (unless (has c z.name) (around c z.name) (around_any rest z.name) fz) q))
        h
      where
        off : (m : ℕ) → has_any rest m ≡ true → has c m ≡ false
        off m there = elim (two (has c m)) [ inl t ↦ absurd (true≢false (sym there ∙ once.0 m t)) | inr f ↦ f ]

    pub back_together : (g : Graph) (i xs zs : List ℕ) → Once g → At i xs x → At i zs z → Tells (up g x.name) (up g z.name)
        → together low g i x z → Earlier (paces_round g x.name z.name) xs zs
    back_together done i xs zs once is js tells e = absurd e
    back_together (add n after kind rest) i xs zs once is js tells (inl h) =
        let held = earlier_has low kind i x z h.2 in
        ap (λ (ps : List Pace). is_earlier ps xs zs b)
        (when (holds kind x.name && holds kind z.name) (paces_in kind x.name z.name) (paces_round rest x.name z.name)
        (and_of (holds kind x.name) (holds kind z.name) held.0 held.1))
        ∙ back_in kind i xs zs once.2 is js
        (λ a c p q. tells a c (inner_up n after kind rest once.0 x.name a held.0 p) (inner_up n after kind rest once.0 z.name c held.1 q))
        h.2
    back_together (add n after kind rest) i xs zs once is js tells (inr h) =
        let px = passed n kind rest once.1 x.name (together_has low rest i x z h.1) in
        let pz = out_of n kind i z h.0 (at_starts i zs z js) in
        ap (λ (ps : List Pace). is_earlier ps xs zs b)
        (unless (holds kind x.name && holds kind z.name) (paces_in kind x.name z.name) (paces_round rest x.name z.name)
        (ap (λ (k : Bool). k && holds kind z.name) px.1))
        ∙ back_together rest i xs zs once.3 is js
        (λ a c p q. tells a c (rest_up n after kind rest x.name a px.0 px.1 p) (rest_up n after kind rest z.name c pz.0 pz.1 q))
        h.1

  pub back_of : (g : Graph) (i xs zs : List ℕ) → Once g → At i xs x → At i zs z → Tells (up g x.name) (up g z.name)
      → Lower low (owner g i x) (owner g i z) ⊎ together low g i x z → Earlier (paces_round g x.name z.name) xs zs
  back_of g i xs zs once is js tells e = either_way g i xs zs once is js tells (λ t. back_together g i xs zs once is js tells t) e
