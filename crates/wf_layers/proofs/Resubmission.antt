-- The resubmitted record is that of a fresh run in the environment with one layer more.
use Rattle.std.proofs.Common.{◌≡◌, ℕ, suc, Bool, true, false, not, ◌&&◌, ◌||◌, cond, List, [], ◌∷◌, ◌++◌, Option, Some, None, ◌⊎◌, inl, inr, ⊎_elim, refl, sym, ap, ap₂, ◌∙◌, subst, nat_eq, eqb-true, true≢false, length}
use Rattle.wf_layers.specs.Definition.{Need, Kind, Leaf, Scope, Choice, Foreach, Until, Branches, no_branch, branch, Graph, done, add, is_one, less_one, holds, has, has_any, IsDepth}
use Rattle.wf_layers.specs.Address.{Address, address, Table, starts, is_own, is_in, is_within, is_among, SeenIn}
use Rattle.wf_layers.specs.Source.{Source, all_met, gate, DecideLocal, SoundIn, SoundAny, Sound}
use Rattle.wf_layers.specs.Meaning.{only, sides, rounds, last, deepest, skip, meaning}
use Rattle.wf_layers.specs.Rule.{look_in, look_any, look, Obeys}
use Rattle.wf_layers.proofs.Basics.{two, and_in, and_of, not_true, same_self, starts_outer, when, unless, only_same, cond_same, in_within, rest_within, other_within, held_in, among_here, among_there, longer, some_turn, sides_out, sides_at}
use Rattle.wf_layers.proofs.Layers.{out_layers, gate_same}
use Rattle.wf_layers.proofs.Tables.{held, later'}
use Rattle.wf_layers.specs.Part.{RegionIn, RegionAny, Region, IsPart}
use Rattle.wf_layers.specs.Laws.{IsFresh}
use Rattle.wf_layers.specs.Resubmission.{kept, SplitIn, SplitAny, Split, IsSplit, layered, pin, PassedIn, PassedAny, Passed, IsResubmission, ResubmissionIsFresh, SameAnswers, OldAnswersGiveTheOldRows, MayBeResubmittedAgain}
use Rattle.wf_layers.proofs.Meaning.{meaning_solves}
use Rattle.wf_layers.proofs.Unique.{all_unique, part_unique}

both {ℓ} : {A : Type ℓ} (b : Bool) {u u' v v' : A} → u ≡ u' → v ≡ v' → cond b u v ≡ cond b u' v'
both b e h = ap₂ (λ x y. cond b x y) e h

pub kept_not : (p q : Bool) → not (p || q) ≡ true → p ≡ false
kept_not true q e = absurd (true≢false (sym e))
kept_not false q e = refl

pub kept_other : (p q : Bool) → not (p || q) ≡ true → q ≡ false
kept_other true q e = absurd (true≢false (sym e))
kept_other false true e = absurd (true≢false (sym e))
kept_other false false e = refl

pub is_kept : (p q : Bool) → p ≡ false → q ≡ false → not (p || q) ≡ true
is_kept true q e h = absurd (true≢false e)
is_kept false true e h = absurd (true≢false h)
is_kept false false e h = refl

pub not_kept : (p q : Bool) → not (p || q) ≡ false → (p ≡ true) ⊎ (q ≡ true)
not_kept true q e = inl refl
not_kept false true e = inr refl
not_kept false false e = absurd (true≢false e)

not_of : (p : Bool) → not p ≡ true → p ≡ false
not_of true e = absurd (true≢false (sym e))
not_of false e = refl

of_not : (p : Bool) → p ≡ false → not p ≡ true
of_not true e = absurd (true≢false e)
of_not false e = refl

-- LOCALITY OF THE NEW SOURCES

module _ {Row Begun Decision Verdict : Type 0} (a b : Source Row Begun Decision Verdict) (redo : ℕ → Bool)
    (Sees : Address → Address → Type 0) where
  mutual
    layered_in : (kind : Kind) (n l : ℕ) → SoundIn a Sees kind n l → SoundIn b Sees kind n l → SoundIn (layered a b redo) Sees kind n l
    layered_in Leaf n l x y =
        (λ i li t u e. both (redo n) (y.0 i li t u e) (x.0 i li t u e), λ i li t u p e. both (redo n) (y.1 i li t u p e) (x.1 i li t u p e))
    layered_in (Scope g) n l x y = (
      λ i li t u p c v e h. both (redo n) (y.0 i li t u p c v e h) (x.0 i li t u p c v e h),
      λ i li t u e. both (redo n) (y.1 i li t u e)
          (x.1 i li t u e),
      layered_sound g l x.2 y.2,
    )
    layered_in (Choice bs) n l x y = (
      λ i li t u p c v e h. both (redo n) (y.0 i li t u p c v e h) (x.0 i li t u p c v e h),
      λ i li t u e. both (redo n) (y.1 i li t u e)
          (x.1 i li t u e),
      layered_any bs l x.2 y.2,
    )
    layered_in (Foreach pace g) n l x y = (
      λ i li t u p c v e h. both (redo n) (y.0 i li t u p c v e h) (x.0 i li t u p c v e h),
      λ i li t u e. both (redo n) (y.1 i li t u e)
          (x.1 i li t u e),
      layered_sound g (suc l) x.2 y.2,
    )
    layered_in (Until most g) n l x y = (
      λ i li t u p c v e h. both (redo n) (y.0 i li t u p c v e h) (x.0 i li t u p c v e h),
      λ i li t u e. both (redo n) (y.1 i li t u e)
          (x.1 i li t u e),
      λ i li t u j e h. both (redo n) (y.2 i li t u j e h) (x.2 i li t u j e h),
      layered_sound g (suc l) x.3 y.3,
    )

    layered_any : (bs : Branches) (l : ℕ) → SoundAny a Sees bs l → SoundAny b Sees bs l → SoundAny (layered a b redo) Sees bs l
    layered_any no_branch l x y = tt
    layered_any (branch g rest) l x y = (x.0, layered_sound g l x.1 y.1, layered_any rest l x.2 y.2)

    pub layered_sound : (g : Graph) (l : ℕ) → Sound a Sees g l → Sound b Sees g l → Sound (layered a b redo) Sees g l
    layered_sound done l x y = tt
    layered_sound (add n after kind rest) l x y = (
      (x.0.0, λ i li t u e. both (redo n) (y.0.1 i li t u e) (x.0.1 i li t u e)),
      x.1,
      x.2,
      layered_in kind n l x.3 y.3,
      layered_sound rest l x.4 y.4,
    )

  module _ (again : ℕ → Bool) (r : Table Row) (recall : Address → Decision) where
    mutual
      pin_in : (kind : Kind) (n l : ℕ) → SoundIn b Sees kind n l → SoundIn (pin a b redo again r recall) Sees kind n l
      pin_in Leaf n l y = y
      pin_in (Scope g) n l y = (y.0, λ i li t u e. both (again n) refl (y.1 i li t u e), pin_sound g l y.2)
      pin_in (Choice bs) n l y = (y.0, λ i li t u e. both (again n) refl (y.1 i li t u e), pin_any bs l y.2)
      pin_in (Foreach pace g) n l y = (y.0, λ i li t u e. both (again n) refl (y.1 i li t u e), pin_sound g (suc l) y.2)
      pin_in (Until most g) n l y = (y.0, λ i li t u e. both (again n) refl (y.1 i li t u e), y.2, pin_sound g (suc l) y.3)

      pin_any : (bs : Branches) (l : ℕ) → SoundAny b Sees bs l → SoundAny (pin a b redo again r recall) Sees bs l
      pin_any no_branch l y = tt
      pin_any (branch g rest) l y = (y.0, pin_sound g l y.1, pin_any rest l y.2)

      pub pin_sound : (g : Graph) (l : ℕ) → Sound b Sees g l → Sound (pin a b redo again r recall) Sees g l
      pin_sound done l y = tt
      pin_sound (add n after kind rest) l y = (y.0, y.1, y.2, pin_in kind n l y.3, pin_sound rest l y.4)

-- KEPT ROWS

module _ {Row Begun Decision Verdict : Type 0} (a b : Source Row Begun Decision Verdict) (redo again : ℕ → Bool) (d : Graph) (depth : ℕ → ℕ)
    (falls : IsDepth d depth) (sa : Sound a (SeenIn d) d 0) (sb : Sound b (SeenIn d) d 0) (fa : IsFresh a) (sp : IsSplit d redo again) where
  abbrev pub keeps : ℕ → Bool
  keeps = kept redo again

  abbrev pub r : Table Row
  r = meaning a depth d

  abbrev pub mixed : Source Row Begun Decision Verdict
  mixed = layered a b redo

  abbrev pub f : Table Row
  f = meaning mixed depth d

  pub sol : Obeys mixed d f
  sol = meaning_solves mixed depth d falls (layered_sound a b redo (SeenIn d) d 0 sa sb)

  -- the gate of what isn't redone is that of the old environment
  old_gate : (n : ℕ) → redo n ≡ false → (after : List Need) (i : List ℕ) (t : Table Row) → gate mixed after n i t ≡ gate a after n i t
  old_gate n nr after i t = ap (λ z. all_met a after i t && not (cond z (b.halts (address n i) t) (a.halts (address n i) t))) nr

  same_sides : (g : Graph) (i : List ℕ) (t : Table Row) (y : Address) (s s' : Source Row Begun Decision Verdict) (c : ℕ)
      → ((j : ℕ) → is_within g (i ++ j ∷ []) y ≡ true → look s g (i ++ j ∷ []) t y ≡ look s' g (i ++ j ∷ []) t y) → is_within g i y ≡ true
      → sides c i (λ j k. look s g (i ++ j ∷ []) t) (λ y. None) y ≡ sides c i (λ j k. look s' g (i ++ j ∷ []) t) (λ y. None) y
  same_sides g i t y s s' c same w =
      ⊎_elim
      (λ h. sides_at c i (λ j k. look s g (i ++ j ∷ []) t) (λ y. None) y h.0 h.1 h.2
      ∙ same h.0 (and_of (has g y.name) (starts (i ++ h.0 ∷ []) y.at) (and_in (has g y.name) (starts i y.at) w).0 h.2)
      ∙ sym (sides_at c i (λ j k. look s' g (i ++ j ∷ []) t) (λ y. None) y h.0 h.1 h.2))
      (λ h. sides_out c i (λ j k. look s g (i ++ j ∷ []) t) (λ y. None) y h
      ∙ sym (sides_out c i (λ j k. look s' g (i ++ j ∷ []) t) (λ y. None) y h))
      (some_turn c i y.at)

  closes : (n : ℕ) → redo n ≡ false → (i : List ℕ) (t : Table Row) (p : Decision) (c : ℕ) (v : Option Verdict)
      → mixed.close (address n i) p c v t ≡ a.close (address n i) p c v t
  closes n nr i t p c v = unless (redo n) _ _ nr

  decides : (n : ℕ) → redo n ≡ false → (i : List ℕ) (t : Table Row) → mixed.decide (address n i) t ≡ a.decide (address n i) t
  decides n nr i t = unless (redo n) _ _ nr

  -- there the new environment is the old one
  mutual
    kind_same : (kind : Kind) (n : ℕ) → redo n ≡ false → SplitIn redo again kind n → (i : List ℕ) (t : Table Row) (y : Address)
        → keeps y.name ≡ true → look_in mixed kind n i t y ≡ look_in a kind n i t y
    kind_same Leaf n nr s i t y ky =
        ap (λ z. only (is_own n i y)
        (Some (cond z (b.finish (address n i) (cond z (b.start (address n i) t) (a.start (address n i) t)) t)
        (a.finish (address n i) (cond z (b.start (address n i) t) (a.start (address n i) t)) t)))) nr
    kind_same (Scope g) n nr s i t y ky =
        cond_same (is_own n i y) _ _ _ _ (λ o. ap Some (closes n nr i t (mixed.decide (address n i) t) 0 None)
        ∙ ap (λ p. Some (a.close (address n i) p 0 None t)) (decides n nr i t))
        (λ o. only_same (is_within g i y) _ _ (λ w. look_same g s i t y w ky))
    kind_same (Choice bs) n nr s i t y ky =
        cond_same (is_own n i y) _ _ _ _
        (λ o. ap Some (closes n nr i t (mixed.decide (address n i) t) 0 None)
        ∙ ap (λ p. Some (a.close (address n i) p 0 None t)) (decides n nr i t))
        (λ o. only_same (is_among bs i y) _ _ (λ w. ap (λ p. look_any mixed bs (a.taken p) i t y) (decides n nr i t)
        ∙ any_same bs s (a.taken (a.decide (address n i) t)) i t y ky))
    kind_same (Foreach pace g) n nr s i t y ky =
        cond_same (is_own n i y) _ _ _ _
        (λ o. ap Some (closes n nr i t (mixed.decide (address n i) t) 0 None)
        ∙ ap (λ p. Some (a.close (address n i) p 0 None t)) (decides n nr i t))
        (λ o. only_same (is_within g i y) _ _
        (λ w. ap (λ p. sides (a.items p) i (λ j k. look mixed g (i ++ j ∷ []) t) (λ y. None) y) (decides n nr i t)
        ∙ same_sides g i t y mixed a (a.items (a.decide (address n i) t)) (λ j v. look_same g s.2 (i ++ j ∷ []) t y v ky) w))
    kind_same (Until most g) n nr s i t y ky =
        cond_same (is_own n i y) _ _ _ _
        (λ o. ap Some (closes n nr i t (mixed.decide (address n i) t) (rounds most 0 (λ j. a.ends (mixed.test (address n i) j t)))
        (last (rounds most 0 (λ j. a.ends (mixed.test (address n i) j t))) (λ j. mixed.test (address n i) j t)))
        ∙ ap (λ p. Some (a.close (address n i) p (rounds most 0 (λ j. a.ends (mixed.test (address n i) j t)))
        (last (rounds most 0 (λ j. a.ends (mixed.test (address n i) j t))) (λ j. mixed.test (address n i) j t)) t)) (decides n nr i t)
        ∙ ap (λ q. Some (a.close (address n i) (a.decide (address n i) t) (rounds most 0 (λ j. a.ends (q j)))
        (last (rounds most 0 (λ j. a.ends (q j))) q) t)) tests)
        (λ o. only_same (is_within g i y) _ _
        (λ w. ap (λ q. sides (rounds most 0 (λ j. a.ends (q j))) i (λ j k. look mixed g (i ++ j ∷ []) t) (λ y. None) y) tests
        ∙ same_sides g i t y mixed a (rounds most 0 (λ j. a.ends (a.test (address n i) j t)))
        (λ j v. look_same g s.2 (i ++ j ∷ []) t y v ky) w))
      where
        tests : ◌≡◌ {A = ℕ → Verdict} (λ j. mixed.test (address n i) j t) (λ j. a.test (address n i) j t)
        tests = ap (λ x j. cond x (b.test (address n i) j t) (a.test (address n i) j t)) nr

    any_same : (bs : Branches) → SplitAny redo again bs → (c : ℕ) (i : List ℕ) (t : Table Row) (y : Address) → keeps y.name ≡ true
        → look_any mixed bs c i t y ≡ look_any a bs c i t y
    any_same no_branch s c i t y ky = refl
    any_same (branch g rest) s c i t y ky =
        cond_same (is_within g i y) _ _ _ _
        (λ w. cond_same (is_one c) _ _ _ _ (λ o. look_same g s.0 i t y w ky)
        (λ o. sym (unless (a.pinned y.name) (a.old y) _ (fa y.name).0))) (λ w. any_same rest s.1 (less_one c) i t y ky)

    pub look_same : (g : Graph) → Split redo again g → (i : List ℕ) (t : Table Row) (y : Address) → is_within g i y ≡ true
        → keeps y.name ≡ true → look mixed g i t y ≡ look a g i t y
    look_same done s i t y w ky = refl
    look_same (add n after kind rest) s i t y w ky =
        ⊎_elim
        (λ e. when (is_in n kind i y) _ (look mixed rest i t y) e
        ∙ ap (λ z. cond z (look_in mixed kind n i t y) (skip a n kind i y)) (old_gate n (not_redo e) after i t)
        ∙ both (gate a after n i t) (kind_same kind n (not_redo e) s.2 i t y ky) refl
        ∙ sym (unless (a.pinned n) (a.old y) _ (fa n).0
        ∙ ap (λ x. cond (x || gate a after n i t) (look_in a kind n i t y) (skip a n kind i y)) (fa n).1)
        ∙ sym (when (is_in n kind i y) _ (look a rest i t y) e))
        (λ e. unless (is_in n kind i y) _ (look mixed rest i t y) e ∙ look_same rest s.3 i t y (other_within n after kind rest i y w e) ky
        ∙ sym (unless (is_in n kind i y) _ (look a rest i t y) e))
        (two (is_in n kind i y))
      where
        not_redo : is_in n kind i y ≡ true → redo n ≡ false
        not_redo e = not_true (redo n) (λ p.
            ⊎_elim
            (λ same. true≢false (sym p ∙ kept_not (redo n) (again n) (subst (λ q. keeps q ≡ true) (sym (eqb-true n y.name same)) ky)))
            (λ u. true≢false (sym
            (s.0 p y.name (sym (ap (λ c. c || holds kind y.name) u)
            ∙ (and_in (nat_eq n y.name || holds kind y.name) (starts i y.at) e).0)) ∙ kept_not (redo y.name) (again y.name) ky))
            (two (nat_eq n y.name)))

  abbrev not_redone : ℕ → Bool
  not_redone n = not (redo n)

  keeps_not : (n : ℕ) → keeps n ≡ true → not_redone n ≡ true
  keeps_not n e = of_not (redo n) (kept_not (redo n) (again n) e)

  mutual
    region_in : (kind : Kind) (n : ℕ) → SplitIn redo again kind n → RegionIn keeps not_redone kind n
    region_in Leaf n s = tt
    region_in (Scope g) n s = region g s
    region_in (Choice bs) n s = region_any bs s
    region_in (Foreach t g) n s = (λ e. is_kept (redo n) (again n) (not_of (redo n) e) s.0, region g s.2)
    region_in (Until most g) n s = (λ e. is_kept (redo n) (again n) (not_of (redo n) e) s.0, region g s.2)

    region_any : (bs : Branches) → SplitAny redo again bs → RegionAny keeps not_redone bs
    region_any no_branch s = tt
    region_any (branch g rest) s = (region g s.0, region_any rest s.1)

    region : (g : Graph) → Split redo again g → Region keeps not_redone g
    region done s = tt
    region (add n after kind rest) s = (
      s.1,
      λ q h k. of_not (redo n) (not_true (redo n) (λ p. true≢false (sym (s.0 p q h) ∙ kept_not (redo q) (again q) k))),
      region_in kind n s.2,
      region rest s.3,
    )

  -- what is kept is a part of the definition
  pub kept_part : IsPart d (kept redo again) (λ n. not (redo n))
  kept_part = record { within = keeps_not; sees = λ z y e see. sp.after z y (not_of (redo z.name) e) see; tree = region d sp.tree }

  -- kept rows are the same in the old environment and in that with one layer more
  pub kept_same : (x : Address) → is_within d [] x ≡ true → keeps x.name ≡ true → r x ≡ f x
  kept_same x w kx =
      part_unique a depth d falls sa keeps not_redone
      kept_part f
      (λ y v ky. sol y v ∙ look_same d sp.tree [] f y v ky) x w kx

  -- THE PINNED RULE

  module _ (recall : Address → Decision) (rs : IsResubmission d depth a b redo again recall) where
    abbrev pinned : Source Row Begun Decision Verdict
    pinned = pin a b redo again r recall

    -- what a container's graph is like where it isn't in a loop
    abbrev AtTop : Graph → List ℕ → Type 0
    AtTop g i = (q : ℕ) → has g q ≡ true → again q ≡ true → [] ≡ i

    abbrev Up : Graph → List ℕ → Type 0
    Up g i = (y : Address) → is_within g i y ≡ true → is_within d [] y ≡ true

    -- what is neither kept: redone, or closed again and in no loop
    abbrev Redone : ℕ → List ℕ → Type 0
    Redone n i = (redo n ≡ true) ⊎ ((again n ≡ true) × ([] ≡ i))

    -- at a container that is closed again, what it sees is kept
    sees_kept : (n : ℕ) (i : List ℕ) → redo n ≡ false → (y : Address) → SeenIn d (address n i) y → r y ≡ f y
    sees_kept n i nr y see = kept_same y see.0 (sp.after (address n i) y nr see)

    not_again : (n : ℕ) → redo n ≡ true → again n ≡ false
    not_again n e = not_true (again n) (λ t. true≢false (sym e ∙ sp.apart n t))

    close_is : (n : ℕ) (i : List ℕ) → Redone n i → (p : Decision) (c : ℕ) (v : Option Verdict)
        → mixed.close (address n i) p c v f ≡ b.close (address n i) p c v f
    close_is n i (inl e) p c v = when (redo n) _ _ e
    close_is n i (inr e) p c v = unless (redo n) _ _ (sp.apart n e.0) ∙ sym (rs.closes (address n i) p c v f e.0)

    decide_is : (n l : ℕ) (i : List ℕ) → length i ≡ l → DecideLocal a (SeenIn d) n l → Redone n i
        → mixed.decide (address n i) f ≡ pinned.decide (address n i) f
    decide_is n l i li local (inl e) = when (redo n) _ _ e ∙ sym (unless (again n) _ _ (not_again n e))
    decide_is n l i li local (inr e) =
        let nr = sp.apart n e.0 in
        unless (redo n) _ _ nr ∙ local i li f r (λ y see. sym (sees_kept n i nr y see))
        ∙ subst (λ j. a.decide (address n j) r ≡ recall (address n j)) e.1 (sym (rs.recalls n e.0)) ∙ sym (when (again n) _ _ e.0)

    abbrev Pins : Graph → ℕ → Type 0
    Pins g l =
        (i : List ℕ) → length i ≡ l → AtTop g i → Up g i → (x : Address) → is_within g i x ≡ true → f x ≡ look mixed g i f x
        → look mixed g i f x ≡ look pinned g i f x

    inner_is : (n : ℕ) (i : List ℕ) (v u : Option Row) (c : Bool) (y : Address) → is_own n i y ≡ false → c ≡ true
        → cond (is_own n i y) v (only c u) ≡ u
    inner_is n i v u c y o e = unless (is_own n i y) v _ o ∙ when c u None e

    pin_sides : (l : ℕ) (g : Graph) (i : List ℕ) → length i ≡ l → (c : ℕ) (x : Address) → Pins g (suc l) → ((j : ℕ) → AtTop g (i ++ j ∷ []))
        → Up g i → is_within g i x ≡ true → f x ≡ sides c i (λ j k. look mixed g (i ++ j ∷ []) f) (λ y. None) x
        → sides c i (λ j k. look mixed g (i ++ j ∷ []) f) (λ y. None) x ≡ sides c i (λ j k. look pinned g (i ++ j ∷ []) f) (λ y. None) x
    pin_sides l g i li c x pins at up w e =
        ⊎_elim
        (λ h.
        let v = sides_at c i (λ j k. look mixed g (i ++ j ∷ []) f) (λ y. None) x h.0 h.1 h.2 in
        let wj = and_of (has g x.name) (starts (i ++ h.0 ∷ []) x.at) (and_in (has g x.name) (starts i x.at) w).0 h.2 in
        v ∙ pins (i ++ h.0 ∷ []) (longer i h.0 l li) (at h.0)
        (λ y u. up y (let q = and_in (has g y.name) (starts (i ++ h.0 ∷ []) y.at) u in
        and_of (has g y.name) (starts i y.at) q.0 (starts_outer i h.0 y.at q.1))) x wj (e ∙ v)
        ∙ sym (sides_at c i (λ j k. look pinned g (i ++ j ∷ []) f) (λ y. None) x h.0 h.1 h.2))
        (λ h. sides_out c i (λ j k. look mixed g (i ++ j ∷ []) f) (λ y. None) x h
        ∙ sym (sides_out c i (λ j k. look pinned g (i ++ j ∷ []) f) (λ y. None) x h))
        (some_turn c i x.at)

    -- a loop that isn't kept is redone
    loop_redone : (n : ℕ) (i : List ℕ) → again n ≡ false → Redone n i → redo n ≡ true
    loop_redone n i na (inl e) = e
    loop_redone n i na (inr e) = absurd (true≢false (sym e.0 ∙ na))

    mutual
      kind_pins : (kind : Kind) (n l : ℕ) → SoundIn a (SeenIn d) kind n l → SplitIn redo again kind n → PassedIn a again r kind
          → (i : List ℕ) → length i ≡ l → Redone n i → ((q : ℕ) → holds kind q ≡ true → again q ≡ true → [] ≡ i)
          → ((y : Address) → (holds kind y.name && starts i y.at) ≡ true → is_within d [] y ≡ true) → (x : Address)
          → f x ≡ look_in mixed kind n i f x → look_in mixed kind n i f x ≡ look_in pinned kind n i f x
      kind_pins Leaf n l so s p i li re at up x e =
          ap (λ z. only (is_own n i x)
          (Some (cond z (b.finish (address n i) (cond z (b.start (address n i) f) (a.start (address n i) f)) f)
          (a.finish (address n i) (cond z (b.start (address n i) f) (a.start (address n i) f)) f)))) (loop_redone n i s re)
      kind_pins (Scope g) n l so s p i li re at up x e =
          cond_same (is_own n i x) _ _ _ _ (λ o. ap Some (close_is n i re (mixed.decide (address n i) f) 0 None)
          ∙ ap (λ q. Some (b.close (address n i) q 0 None f)) (decide_is n l i li so.1 re))
          (λ o. only_same (is_within g i x) _ _
          (λ w. graph_pins g l so.2 s p i li at up x w (e ∙ inner_is n i _ _ (is_within g i x) x o w)))
      kind_pins (Choice bs) n l so s p i li re at up x e =
          cond_same (is_own n i x) _ _ _ _ (λ o. ap Some (close_is n i re (mixed.decide (address n i) f) 0 None)
          ∙ ap (λ q. Some (b.close (address n i) q 0 None f)) (decide_is n l i li so.1 re))
          (λ o. only_same (is_among bs i x) _ _ (λ w.
          any_pins bs l so.2 s p (a.taken (mixed.decide (address n i) f)) i li at up x (e ∙ inner_is n i _ _ (is_among bs i x) x o w)
          ∙ ap (λ q. look_any pinned bs (a.taken q) i f x) (decide_is n l i li so.1 re)))
      kind_pins (Foreach pace g) n l so s p i li re at up x e =
          cond_same (is_own n i x) _ _ _ _ (λ o. ap Some (close_is n i re (mixed.decide (address n i) f) 0 None)
          ∙ ap (λ q. Some (b.close (address n i) q 0 None f)) (decide_is n l i li so.1 re))
          (λ o. only_same (is_within g i x) _ _ (λ w.
          pin_sides l g i li (a.items (mixed.decide (address n i) f)) x (graph_pins g (suc l) so.2 s.2 p)
          (λ j q h k. absurd (true≢false (sym k ∙ s.1 q h))) up w (e ∙ inner_is n i _ _ (is_within g i x) x o w)
          ∙ ap (λ q. sides (a.items q) i (λ j k. look pinned g (i ++ j ∷ []) f) (λ y. None) x) (decide_is n l i li so.1 re)))
      kind_pins (Until most g) n l so s p i li re at up x e =
          cond_same (is_own n i x) _ _ _ _
          (λ o. ap Some (close_is n i re (mixed.decide (address n i) f) (rounds most 0 (λ j. a.ends (mixed.test (address n i) j f)))
          (last (rounds most 0 (λ j. a.ends (mixed.test (address n i) j f))) (λ j. mixed.test (address n i) j f)))
          ∙ ap (λ q. Some (b.close (address n i) q (rounds most 0 (λ j. a.ends (mixed.test (address n i) j f)))
          (last (rounds most 0 (λ j. a.ends (mixed.test (address n i) j f))) (λ j. mixed.test (address n i) j f)) f))
          (decide_is n l i li so.1 re)
          ∙ ap (λ q. Some (b.close (address n i) (pinned.decide (address n i) f) (rounds most 0 (λ j. a.ends (q j)))
          (last (rounds most 0 (λ j. a.ends (q j))) q) f)) tests)
          (λ o. only_same (is_within g i x) _ _ (λ w.
          pin_sides l g i li (rounds most 0 (λ j. a.ends (mixed.test (address n i) j f))) x (graph_pins g (suc l) so.3 s.2 p)
          (λ j q h k. absurd (true≢false (sym k ∙ s.1 q h))) up w (e ∙ inner_is n i _ _ (is_within g i x) x o w)
          ∙ ap (λ q. sides (rounds most 0 (λ j. a.ends (q j))) i (λ j k. look pinned g (i ++ j ∷ []) f) (λ y. None) x) tests))
        where
          tests : ◌≡◌ {A = ℕ → Verdict} (λ j. mixed.test (address n i) j f) (λ j. b.test (address n i) j f)
          tests = ap (λ x j. cond x (b.test (address n i) j f) (a.test (address n i) j f)) (loop_redone n i s.0 re)

      any_pins : (bs : Branches) (l : ℕ) → SoundAny a (SeenIn d) bs l → SplitAny redo again bs → PassedAny a again r bs
          → (c : ℕ) (i : List ℕ) → length i ≡ l → ((q : ℕ) → has_any bs q ≡ true → again q ≡ true → [] ≡ i)
          → ((y : Address) → is_among bs i y ≡ true → is_within d [] y ≡ true) → (x : Address) → f x ≡ look_any mixed bs c i f x
          → look_any mixed bs c i f x ≡ look_any pinned bs c i f x
      any_pins no_branch l so s p c i li at up x e = refl
      any_pins (branch g rest) l so s p c i li at up x e =
          cond_same (is_within g i x) _ _ _ _
          (λ w. cond_same (is_one c) _ _ _ _
          (λ o. graph_pins g l so.1 s.0 p.0 i li (λ q h. at q (ap (λ z. z || has_any rest q) h)) (λ y v. up y (among_here g rest i y v)) x w
          (e ∙ when (is_within g i x) _ _ w ∙ when (is_one c) _ _ o))
          (λ o. ⊎_elim
          (λ k. sym (e ∙ when (is_within g i x) _ _ w ∙ unless (is_one c) _ _ o) ∙ sym (kept_same x (up x (among_here g rest i x w)) k)
          ∙ sym (when (keeps x.name) (r x) _ k))
          (λ k. sym (unless (keeps x.name) (r x) _ k))
          (two (keeps x.name))))
          (λ w. any_pins rest l so.2 s.1 p.1 (less_one c) i li (λ q h. at q (or_right (has g q) (has_any rest q) h))
          (λ y v. up y (among_there g rest i y v)) x (e ∙ unless (is_within g i x) _ _ w))
        where
          or_right : (p q : Bool) → q ≡ true → (p || q) ≡ true
          or_right true q e = refl
          or_right false q e = e

      graph_pins : (g : Graph) (l : ℕ) → Sound a (SeenIn d) g l → Split redo again g → Passed a again r g → (i : List ℕ) → length i ≡ l
          → AtTop g i → Up g i → (x : Address) → is_within g i x ≡ true → f x ≡ look mixed g i f x
          → look mixed g i f x ≡ look pinned g i f x
      graph_pins done l so s p i li at up x w e = refl
      graph_pins (add n after kind rest) l so s p i li at up x w e =
          ⊎_elim
          (λ t. when (is_in n kind i x) _ (look mixed rest i f x) t
          ∙ ⊎_elim
          (λ k. sym (e ∙ when (is_in n kind i x) _ (look mixed rest i f x) t) ∙ sym (kept_same x (up x w) (inside t k))
          ∙ sym (when (keeps n) (r x) _ k))
          (λ k. at_action k (e ∙ when (is_in n kind i x) _ (look mixed rest i f x) t)
          (λ v. kind_pins kind n l so.3 s.2 p.1 i li (redone k) (λ q h. at q (held n kind rest q h))
          (λ y h. up y (in_within n after kind rest i y (held_in n kind i y h))) x v)
          ∙ sym (unless (keeps n) (r x) _ k))
          (two (keeps n))
          ∙ sym (when (is_in n kind i x) _ (look pinned rest i f x) t))
          (λ t. unless (is_in n kind i x) _ (look mixed rest i f x) t
          ∙ graph_pins rest l so.4 s.3 p.2 i li (λ q h. at q (later' n kind rest q h)) (λ y h. up y (rest_within n after kind rest i y h)) x
          (other_within n after kind rest i x w t) (e ∙ unless (is_in n kind i x) _ (look mixed rest i f x) t)
          ∙ sym (unless (is_in n kind i x) _ (look pinned rest i f x) t))
          (two (is_in n kind i x))
        where
          own_has : has (add n after kind rest) n ≡ true
          own_has = ap (λ z. z || holds kind n || has rest n) (same_self n)

          redone : keeps n ≡ false → Redone n i
          redone k = ⊎_elim (λ h. inl h) (λ h. inr (h, at n own_has h)) (not_kept (redo n) (again n) k)

          inside : is_in n kind i x ≡ true → keeps n ≡ true → keeps x.name ≡ true
          inside t k =
              ⊎_elim
              (λ same. subst (λ q. keeps q ≡ true) (eqb-true n x.name same) k)
              (λ u. s.1 k x.name (sym (ap (λ c. c || holds kind x.name) u)
              ∙ (and_in (nat_eq n x.name || holds kind x.name) (starts i x.at) t).0))
              (two (nat_eq n x.name))

          -- a container that is closed again passes its gate in f too
          gate_again : again n ≡ true → gate mixed after n i f ≡ true
          gate_again ag =
              let nr = sp.apart n ag in let top = at n own_has ag in
              old_gate n nr after i f
              ∙ sym (gate_same a (SeenIn d) after n l so.0 i li r f (λ y see. sees_kept n i nr y see))
              ∙ subst (λ j. gate a after n j r ≡ true) top (p.0 ag)

          at_action : keeps n ≡ false → f x ≡ cond (gate mixed after n i f) (look_in mixed kind n i f x) (skip mixed n kind i x)
              → (f x ≡ look_in mixed kind n i f x → look_in mixed kind n i f x ≡ look_in pinned kind n i f x)
              → cond (gate mixed after n i f) (look_in mixed kind n i f x) (skip mixed n kind i x) ≡ cond
              (again n || gate pinned after n i f) (look_in pinned kind n i f x) (skip pinned n kind i x)
          at_action k e inner =
              ⊎_elim
              (λ ag. let g = gate_again ag in
              when (gate mixed after n i f) _ (skip mixed n kind i x) g
              ∙ inner (e ∙ when (gate mixed after n i f) _ (skip mixed n kind i x) g)
              ∙ sym (when (again n || gate pinned after n i f) _ (skip pinned n kind i x) (ap (λ z. z || gate pinned after n i f) ag)))
              (λ no'. cond_same (gate mixed after n i f) _ _ _ _
              (λ g. inner (e ∙ when (gate mixed after n i f) _ (skip mixed n kind i x) g)) (λ g. refl)
              ∙ ap (λ z. cond z (look_in pinned kind n i f x) (skip pinned n kind i x)) (new_gate no')
              ∙ sym (ap (λ z. cond (z || gate pinned after n i f) (look_in pinned kind n i f x) (skip pinned n kind i x)) no'))
              (two (again n))
            where
              -- the gate of what is redone is that of the new environment
              new_gate : again n ≡ false → gate mixed after n i f ≡ gate pinned after n i f
              new_gate no' =
                  let re = ⊎_elim (λ h. h) (λ h. absurd (true≢false (sym h ∙ no'))) (not_kept (redo n) (again n) k) in
                  ap (λ z. all_met a after i f && not (cond z (b.halts (address n i) f) (a.halts (address n i) f))) re

    pub resubmission_is_fresh : ResubmissionIsFresh d depth a b redo again recall
    resubmission_is_fresh x w =
        all_unique pinned depth d falls (pin_sound a b redo (SeenIn d) again r recall d 0 sb) f
        (λ y v. sol y v ∙ graph_pins d 0 sa sp.tree rs.passed [] refl (λ q h k. refl) (λ y v. v) y v (sol y v)) x w

-- SOURCES THAT AGREE

-- sources are equal where all their answers are
source_path : {Row Begun Decision Verdict : Type 0} (a b : Source Row Begun Decision Verdict) (redo : ℕ → Bool) → IsFresh a
    → ((x : Address) → a.old x ≡ None) → SameAnswers a b redo → layered a b redo ≡ a
source_path {Row} {Begun} {Decision} {Verdict} a b redo fa no_old same = λ k. record {
  status = a.status;
  skipped = a.skipped;
  start = λ x t. pick (redo x.name) (λ e. same.start x t e) k;
  tries = λ x p. pick (redo x.name) (λ e. same.tries x p e) k;
  finish = λ x p t. pick (redo x.name) (λ e. same.finish x p t e) k;
  decide = λ x t. pick (redo x.name) (λ e. same.decide x t e) k;
  taken = a.taken;
  items = a.items;
  test = λ x j t. pick (redo x.name) (λ e. same.test x j t e) k;
  ends = a.ends;
  close = λ x p c v t. pick (redo x.name) (λ e. same.close x p c v t e) k;
  halts = λ x t. pick (redo x.name) (λ e. same.halts x t e) k;
  pinned = λ n. sym (fa n).0 k;
  old = λ x. sym (no_old x) k;
  reclosed = λ n. sym (fa n).1 k;
}
  where
    pick : {A : Type 0} (p : Bool) {u v : A} → (p ≡ true → u ≡ v) → cond p u v ≡ v
    pick true h = h refl
    pick false h = refl

module _ {Row Begun Decision Verdict : Type 0} (a b : Source Row Begun Decision Verdict) (redo again : ℕ → Bool) (d : Graph) (depth : ℕ → ℕ)
    (falls : IsDepth d depth) (sa : Sound a (SeenIn d) d 0) (sb : Sound b (SeenIn d) d 0) (fa : IsFresh a) (recall : Address → Decision)
    (rs : IsResubmission d depth a b redo again recall) where
  pub old_answers_give_the_old_rows : ((x : Address) → a.old x ≡ None) → OldAnswersGiveTheOldRows d depth a b redo again recall
  old_answers_give_the_old_rows no_old same x w =
      resubmission_is_fresh a b redo again d depth falls sa sb fa rs.split recall rs x w
      ∙ ap (λ s. meaning s depth d x) (source_path a b redo fa no_old same)

  -- the resubmitted table, as a function, is that of the fresh run
  table_path : meaning (pin a b redo again (meaning a depth d) recall) depth d ≡ meaning (layered a b redo) depth d
  table_path = λ k x. each x k
    where
      each : (x : Address) → meaning (pin a b redo again (meaning a depth d) recall) depth d x ≡ meaning (layered a b redo) depth d x
      each x =
          ⊎_elim
          (λ w. resubmission_is_fresh a b redo again d depth falls sa sb fa rs.split recall rs x w)
          (λ w. out_layers (pin a b redo again (meaning a depth d) recall) depth d [] (deepest depth d) (λ x. None) x w
          ∙ sym (out_layers (layered a b redo) depth d [] (deepest depth d) (λ x. None) x w))
          (two (is_within d [] x))

  pub may_be_resubmitted_again : MayBeResubmittedAgain d depth a b redo again recall
  may_be_resubmitted_again c redo' again' recall' sc rs' x w =
      ap (λ t. meaning (pin (layered a b redo) c redo' again' t recall') depth d x) table_path
      ∙ resubmission_is_fresh (layered a b redo) c redo' again' d depth falls (layered_sound a b redo (SeenIn d) d 0 sa sb) sc
      (λ n. (refl, refl)) rs'.split recall' rs' x w
