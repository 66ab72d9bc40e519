-- A resubmission of old tables that are read alike.
use Rattle.std.proofs.Common.{◌≡◌, ℕ, zero, suc, Bool, true, false, ◌&&◌, ◌||◌, not, cond, List, [], ◌∷◌, ◌++◌, Option, Some, None, inl, inr, refl, sym, ap, ap₂, ◌∙◌, subst, nat_eq, eqb-true}
use Rattle.wf_layers.specs.Definition.{Need, Kind, Leaf, Scope, Choice, Foreach, Until, Branches, no_branch, branch, Graph, done, add, is_one, less_one, holds, has, has_any, IsDepth, Status}
use Rattle.wf_layers.specs.Address.{Address, Table, address, starts, same_at, is_own, is_in, is_within, is_among, SeenIn}
use Rattle.wf_layers.specs.Source.{Source, Sound, all_met, is_met, is_listed, gate, leaf}
use Rattle.wf_layers.specs.Meaning.{only, sides, rounds, last, skip, skip_all, meaning}
use Rattle.wf_layers.specs.Rule.{look_in, look_any, look, Obeys}
use Rattle.wf_layers.specs.Resubmission.{kept, pin, Split, SplitIn, SplitAny, IsSplit}
use Rattle.wf_layers.proofs.Basics.{two, and_in, and_of, either, not_true, when, unless, cond_same, only_same, rounds_same}
use Rattle.wf_layers.proofs.Meaning.{meaning_solves}
use Rattle.wf_layers.proofs.Unique.{all_unique}
use Rattle.wf_layers.proofs.Resubmission.{pin_sound, kept_not, not_kept}
use Rattle.wf_alike.specs.Alike.{BothAlike, no_rows, two_rows, AreAlike, ReadsAlike, OldTablesReadAlike}

opposed : (b : Bool) → b ≡ true → b ≡ false → ⊥
opposed true t f = cc
opposed false t f = cc

last_same : {A : Type 0} (c : ℕ) (p q : ℕ → A) → ((j : ℕ) → p j ≡ q j) → last c p ≡ last c q
last_same zero p q e = refl
last_same (suc j) p q e = ap (λ v. Some v) (e j)

module _ {Row Begun Decision Verdict : Type 0} (a b : Source Row Begun Decision Verdict) (redo again : ℕ → Bool)
    (recall : Address → Decision) (plain : Row → Row) (reads : ReadsAlike a b plain) where
  abbrev keeps : ℕ → Bool
  keeps = kept redo again

  -- ---- what isn't kept

  module _ (t u f g : Table Row) (fg : AreAlike plain f g) (y : Address) (new : keeps y.name ≡ false) where
    abbrev pt : Source Row Begun Decision Verdict
    pt = pin a b redo again t recall

    abbrev pu : Source Row Begun Decision Verdict
    pu = pin a b redo again u recall

    met_one : (listed : List Status) (o p : Option Row) → BothAlike plain o p → is_met pt listed o ≡ is_met pu listed p
    met_one listed _ _ no_rows = refl
    met_one listed _ _ (two_rows {p = p} {q = q} al) = ap (is_listed listed) (reads.status p q al)

    met_same : (after : List Need) (i : List ℕ) → all_met pt after i f ≡ all_met pu after i g
    met_same [] i = refl
    met_same (n ∷ ns) i = ap₂ (λ c e. c && e) (met_one n.listed (f (address n.name i)) (g (address n.name i)) (fg (address n.name i)))
        (met_same ns i)

    gate_same : (after : List Need) (n : ℕ) (i : List ℕ) → gate pt after n i f ≡ gate pu after n i g
    gate_same after n i = ap₂ (λ c e. c && not e) (met_same after i) (reads.halts (address n i) f g fg)

    leaf_same : (x : Address) → leaf pt x f ≡ leaf pu x g
    leaf_same x = ap (λ p. b.finish x p f) (reads.start x f g fg) ∙ reads.finish x (b.start x g) f g fg

    decide_same : (x : Address) → pt.decide x f ≡ pu.decide x g
    decide_same x = ap (cond (again x.name) (recall x)) (reads.decide x f g fg)

    close_same : (x : Address) (c : ℕ) (v : Option Verdict) → b.close x (pt.decide x f) c v f ≡ b.close x (pu.decide x g) c v g
    close_same x c v = ap (λ p. b.close x p c v f) (decide_same x) ∙ reads.close x (pu.decide x g) c v f g fg

    sides_same : (c : ℕ) (i : List ℕ) (h k : ℕ → Table Row → Table Row) → ((j : ℕ) (z : Table Row) → h j z y ≡ k j z y)
        → sides c i h (λ z. None) y ≡ sides c i k (λ z. None) y
    sides_same zero i h k e = refl
    sides_same (suc c) i h k e = cond_same (starts (i ++ c ∷ []) y.at) _ _ _ _ (λ q. e c (λ z. None)) (λ q. sides_same c i h k e)

    -- y isn't in what is kept
    not_inside : (n : ℕ) (kind : Kind) (i : List ℕ) → (keeps n ≡ true → (q : ℕ) → holds kind q ≡ true → keeps q ≡ true)
        → is_in n kind i y ≡ true → keeps n ≡ false
    not_inside n kind i all h =
        not_true (keeps n) (λ k. elim
        (either (nat_eq n y.name) (holds kind y.name) (and_in (nat_eq n y.name || holds kind y.name) (starts i y.at) h).0) [
          | inl same ↦ opposed (keeps y.name) (ap keeps (sym (eqb-true n y.name same)) ∙ k) new
          | inr inside ↦ opposed (keeps y.name) (all k y.name inside) new
        ])

    mutual
      in_same : (kind : Kind) (n : ℕ) (i : List ℕ) → SplitIn redo again kind n → look_in pt kind n i f y ≡ look_in pu kind n i g y
      in_same Leaf n i s = only_same (is_own n i y) _ _ (λ q. ap (λ v. Some v) (leaf_same (address n i)))
      in_same (Scope w) n i s =
          cond_same (is_own n i y) _ _ _ _ (λ q. ap (λ v. Some v) (close_same (address n i) 0 None))
          (λ q. only_same (is_within w i y) _ _ (λ z. look_same w i s))
      in_same (Choice bs) n i s =
          cond_same (is_own n i y) _ _ _ _ (λ q. ap (λ v. Some v) (close_same (address n i) 0 None))
          (λ q. only_same (is_among bs i y) _ _
          (λ z. ap (λ p. look_any pt bs (a.taken p) i f y) (decide_same (address n i))
          ∙ any_same bs (a.taken (pu.decide (address n i) g)) i s))
      in_same (Foreach pace w) n i s =
          cond_same (is_own n i y) _ _ _ _ (λ q. ap (λ v. Some v) (close_same (address n i) 0 None))
          (λ q. only_same (is_within w i y) _ _
          (λ z. ap (λ p. sides (a.items p) i (λ j v. look pt w (i ++ j ∷ []) f) (λ v. None) y) (decide_same (address n i))
          ∙ sides_same (a.items (pu.decide (address n i) g)) i _ _ (λ j v. look_same w (i ++ j ∷ []) s.2)))
      in_same (Until most w) n i s =
          let x = address n i in
          let tests : (j : ℕ) → b.test x j f ≡ b.test x j g = λ j. reads.test x j f g fg in
          let count : rounds most 0 (λ j. a.ends (b.test x j f)) ≡ rounds most 0 (λ j. a.ends (b.test x j g)) =
          rounds_same most 0 (λ j. a.ends (b.test x j f)) (λ j. a.ends (b.test x j g)) (λ h _ _. ap a.ends (tests h)) in
          cond_same (is_own n i y) _ _ _ _
          (λ q. ap (λ v. Some v)
          (ap (λ c. b.close x (pt.decide x f) c (last c (λ j. b.test x j f)) f) count
          ∙ ap (λ v. b.close x (pt.decide x f) (rounds most 0 (λ j. a.ends (b.test x j g))) v f)
          (last_same (rounds most 0 (λ j. a.ends (b.test x j g))) (λ j. b.test x j f) (λ j. b.test x j g) tests)
          ∙ close_same x (rounds most 0 (λ j. a.ends (b.test x j g)))
          (last (rounds most 0 (λ j. a.ends (b.test x j g))) (λ j. b.test x j g))))
          (λ q. only_same (is_within w i y) _ _
          (λ z. ap (λ c. sides c i (λ j v. look pt w (i ++ j ∷ []) f) (λ v. None) y) count
          ∙ sides_same (rounds most 0 (λ j. a.ends (b.test x j g))) i _ _ (λ j v. look_same w (i ++ j ∷ []) s.2)))

      any_same : (bs : Branches) (c : ℕ) (i : List ℕ) → SplitAny redo again bs → look_any pt bs c i f y ≡ look_any pu bs c i g y
      any_same no_branch c i s = refl
      any_same (branch w rest) c i s =
          cond_same (is_within w i y) _ _ _ _
          (λ q. cond_same (is_one c) _ _ _ _ (λ z. look_same w i s.0)
          (λ z. cond_same (keeps y.name) _ _ _ _ (λ v. absurd (opposed (keeps y.name) v new)) (λ v. refl)))
          (λ q. any_same rest (less_one c) i s.1)

      look_same : (w : Graph) (i : List ℕ) → Split redo again w → look pt w i f y ≡ look pu w i g y
      look_same done i s = refl
      look_same (add n after kind rest) i s =
          cond_same (is_in n kind i y) _ _ _ _
          (λ q. cond_same (keeps n) _ _ _ _ (λ z. absurd (opposed (keeps n) z (not_inside n kind i s.1 q)))
          (λ z. ap (λ c. cond (again n || c) (look_in pt kind n i f y) (skip pt n kind i y)) (gate_same after n i)
          ∙ cond_same (again n || gate pu after n i g) _ _ _ _ (λ v. in_same kind n i s.2) (λ v. refl)))
          (λ q. look_same rest i s.3)

  -- ---- what is kept

  module _ (t f : Table Row) (y : Address) (old : keeps y.name ≡ true) where
    abbrev pk : Source Row Begun Decision Verdict
    pk = pin a b redo again t recall

    not_named : (n : ℕ) → keeps n ≡ false → nat_eq n y.name ≡ false
    not_named n moved = not_true (nat_eq n y.name) (λ same. opposed (keeps n) (ap keeps (eqb-true n y.name same) ∙ old) moved)

    held : (n : ℕ) (kind : Kind) (i : List ℕ) → is_in n kind i y ≡ true → nat_eq n y.name ≡ false
        → (holds kind y.name && starts i y.at) ≡ true
    held n kind i here apart = ap (λ c. (c || holds kind y.name) && starts i y.at) (sym apart) ∙ here

    is_again : (n : ℕ) (kind : Kind) → (redo n ≡ true → (q : ℕ) → holds kind q ≡ true → redo q ≡ true) → keeps n ≡ false
        → holds kind y.name ≡ true → again n ≡ true
    is_again n kind all moved h = elim (not_kept (redo n) (again n) moved) [
      | inl r ↦ absurd (opposed (redo y.name) (all r y.name h) (kept_not (redo y.name) (again y.name) old))
      | inr ag ↦ ag
    ]

    cut : (p q r : Bool) → (p && r) ≡ false → ((p || q) && r) ≡ true → (q && r) ≡ true
    cut true q true no_here h = absurd (cc)
    cut true q false no_here h = absurd (and_false (true || q) h)
      where
        and_false : (c : Bool) → (c && false) ≡ true → ⊥
        and_false true e = cc
        and_false false e = cc
    cut false q r no_here h = h

    in_rest : (w : Graph) (rest : Branches) (i : List ℕ) → is_within w i y ≡ false → is_among (branch w rest) i y ≡ true
        → is_among rest i y ≡ true
    in_rest w rest i later h = cut (has w y.name) (has_any rest y.name) (starts i y.at) later h

    in_later : (n : ℕ) (after : List Need) (kind : Kind) (rest : Graph) (i : List ℕ) → is_in n kind i y ≡ false
        → is_within (add n after kind rest) i y ≡ true → is_within rest i y ≡ true
    in_later n after kind rest i later h = cut (nat_eq n y.name || holds kind y.name) (has rest y.name) (starts i y.at) later h

    mutual
      in_old : (kind : Kind) (n : ℕ) (i : List ℕ) → SplitIn redo again kind n → again n ≡ true → nat_eq n y.name ≡ false
          → (holds kind y.name && starts i y.at) ≡ true → look_in pk kind n i f y ≡ t y
      in_old Leaf n i s ag apart h = absurd (cc)
      in_old (Scope w) n i s ag apart h =
          unless (is_own n i y) _ (only (is_within w i y) (look pk w i f y)) (ap (λ c. c && same_at i y.at) apart)
          ∙ when (is_within w i y) (look pk w i f y) None h ∙ look_old w i s h
      in_old (Choice bs) n i s ag apart h =
          unless (is_own n i y) _ (only (is_among bs i y) (look_any pk bs (a.taken (pk.decide (address n i) f)) i f y))
          (ap (λ c. c && same_at i y.at) apart)
          ∙ when (is_among bs i y) (look_any pk bs (a.taken (pk.decide (address n i) f)) i f y) None h
          ∙ any_old bs (a.taken (pk.decide (address n i) f)) i s h
      in_old (Foreach pace w) n i s ag apart h = absurd (opposed (again n) ag s.0)
      in_old (Until most w) n i s ag apart h = absurd (opposed (again n) ag s.0)

      any_old : (bs : Branches) (c : ℕ) (i : List ℕ) → SplitAny redo again bs → is_among bs i y ≡ true → look_any pk bs c i f y ≡ t y
      any_old no_branch c i s h = absurd (cc)
      any_old (branch w rest) c i s h = elim (two (is_within w i y)) [
        | inl here ↦
            when (is_within w i y) _ _ here
            ∙ elim (two (is_one c)) as (λ _. cond (is_one c) (look pk w i f y) (skip_all pk w i y) ≡ t y) [
              | inl one ↦ when (is_one c) _ _ one ∙ look_old w i s.0 here
              | inr other ↦ unless (is_one c) _ _ other ∙ when (keeps y.name) (t y) _ old
            ]
        | inr later ↦
            unless (is_within w i y) _ _ later ∙ any_old rest (less_one c) i s.1 (in_rest w rest i later h)
      ]

      look_old : (w : Graph) (i : List ℕ) → Split redo again w → is_within w i y ≡ true → look pk w i f y ≡ t y
      look_old done i s h = absurd (cc)
      look_old (add n after kind rest) i s h = elim (two (is_in n kind i y)) [
        | inl here ↦
            when (is_in n kind i y) _ _ here
            ∙ elim (two (keeps n)) as
            (λ _. cond (keeps n) (t y) (cond (again n || gate pk after n i f) (look_in pk kind n i f y) (skip pk n kind i y)) ≡ t y) [
              | inl pinned ↦ when (keeps n) _ _ pinned
              | inr moved ↦
                  let apart = not_named n moved in
                  let inside = held n kind i here apart in
                  let ag = is_again n kind s.0 moved (and_in (holds kind y.name) (starts i y.at) inside).0 in
                  unless (keeps n) _ _ moved ∙ when (again n || gate pk after n i f) _ _ (ap (λ c. c || gate pk after n i f) ag)
                  ∙ in_old kind n i s.2 ag apart inside
            ]
        | inr later ↦ unless (is_in n kind i y) _ _ later ∙ look_old rest i s.3 (in_later n after kind rest i later h)
      ]

module _ {Row Begun Decision Verdict : Type 0} (d : Graph) (depth : ℕ → ℕ) (a b : Source Row Begun Decision Verdict) (redo again : ℕ → Bool)
    (recall : Address → Decision) (plain : Row → Row) (falls : IsDepth d depth) (sb : Sound b (SeenIn d) d 0)
    (split : IsSplit d redo again) (reads : ReadsAlike a b plain) where
  module _ (t u : Table Row) (tu : AreAlike plain t u) where
    abbrev f : Table Row
    f = meaning (pin a b redo again t recall) depth d

    abbrev is_old : Address → Bool
    is_old y = is_within d [] y && kept redo again y.name

    -- the rows of the one with what is kept of the other
    abbrev mixed : Table Row
    mixed y = cond (is_old y) (u y) (f y)

    solved : (y : Address) → is_within d [] y ≡ true → f y ≡ look (pin a b redo again t recall) d [] f y
    solved = meaning_solves (pin a b redo again t recall) depth d falls (pin_sound a b redo (SeenIn d) again t recall d 0 sb)

    itself : (o : Option Row) → BothAlike plain o o
    itself None = no_rows
    itself (Some p) = two_rows refl

    mixed_alike : AreAlike plain f mixed
    mixed_alike y = elim (two (is_old y)) [
      | inl here ↦
          let both = and_in (is_within d [] y) (kept redo again y.name) here in
          let left : f y ≡ t y = solved y both.0 ∙ look_old a b redo again recall plain reads t f y both.1 d [] split.tree both.0 in
          subst (λ (o : Option Row). BothAlike plain (f y) o) (sym (when (is_old y) (u y) (f y) here))
          (subst (λ (o : Option Row). BothAlike plain o (u y)) (sym left) (tu y))
      | inr other ↦ subst (λ (o : Option Row). BothAlike plain (f y) o) (sym (unless (is_old y) (u y) (f y) other)) (itself (f y))
    ]

    mixed_obeys : Obeys (pin a b redo again u recall) d mixed
    mixed_obeys y w = elim (two (kept redo again y.name)) [
      | inl old ↦
          when (is_old y) (u y) (f y) (and_of (is_within d [] y) (kept redo again y.name) w old)
          ∙ sym (look_old a b redo again recall plain reads u mixed y old d [] split.tree w)
      | inr new ↦
          unless (is_old y) (u y) (f y) (ap (λ c. c && kept redo again y.name) w ∙ new)
          ∙ solved y w ∙ look_same a b redo again recall plain reads t u f mixed mixed_alike y new d [] split.tree
    ]

    same : (x : Address) → is_within d [] x ≡ true → kept redo again x.name ≡ false
        → f x ≡ meaning (pin a b redo again u recall) depth d x
    same x w new =
        sym (unless (is_old x) (u x) (f x) (ap (λ c. c && kept redo again x.name) w ∙ new))
        ∙ sym (all_unique (pin a b redo again u recall) depth d falls
        (pin_sound a b redo (SeenIn d) again u recall d 0 sb) mixed mixed_obeys x w)

  pub read_alike : OldTablesReadAlike d depth a b redo again recall plain
  read_alike t u tu x w new = same t u tu x w new
