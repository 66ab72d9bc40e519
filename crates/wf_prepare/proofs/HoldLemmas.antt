-- What holds of the row of each leaf wherever it holds of all rows that are known, holds of all rows of a meaning. For that no order of the
-- rows is gone along: where rows of which it doesn't hold were left out, it would hold of all; so none is left out.
use Rattle.std.proofs.Common.{◌≡◌, ℕ, zero, suc, Bool, true, ◌&&◌, ◌||◌, not, cond, List, [], ◌∷◌, ◌++◌, Option, Some, None, inl, inr}
use Rattle.std.proofs.Common.{refl, sym, ap, ◌∙◌, subst}
use Rattle.wf_layers.specs.Definition.{Need, Kind, Leaf, Scope, Choice, Foreach, Until, Branches, no_branch, branch, Graph, done, add}
use Rattle.wf_layers.specs.Definition.{has, is_one, kind_of, less_one, IsDepth}
use Rattle.wf_layers.specs.Address.{Address, Table, address, SeenIn, is_among, is_in, is_own, is_within, starts}
use Rattle.wf_layers.specs.Answered.{with_leaves}
use Rattle.wf_layers.specs.Laws.{IsFresh}
use Rattle.wf_layers.specs.Meaning.{meaning, rounds, sides, skip}
use Rattle.wf_layers.specs.Rule.{Obeys, look, look_any, look_in}
use Rattle.wf_layers.specs.Seen.{Once}
use Rattle.wf_layers.specs.Source.{Sound, SoundAny, SoundIn, Source, all_met, gate, is_met, leaf}
use Rattle.wf_layers.proofs.Basics.{and_of, cond_same, only_same, two, unless, when}
use Rattle.wf_layers.proofs.Instances.{rows_at_instances}
use Rattle.wf_layers.proofs.Meaning.{meaning_solves}
use Rattle.wf_layers.proofs.Unique.{all_unique}
use Rattle.wf_prepare.proofs.ComeLemmas.{Came, row_came}

module _ {Row Begun Decision Verdict : Type 0} (m : Source Row Begun Decision Verdict) (holds : Address → Row → Bool) where
  abbrev kept_row : Address → Row → Row
  kept_row x row = cond (holds x row) row m.skipped

  -- the source in which what doesn't hold is left out
  abbrev cut : Source Row Begun Decision Verdict
  cut = with_leaves m m.tries (λ x b t. kept_row x (m.finish x b t))

  -- ---- each answer stays local

  module _ (Sees : Address → Address → Type 0) where
    mutual
      cut_in : (kind : Kind) (n l : ℕ) → SoundIn m Sees kind n l → SoundIn cut Sees kind n l
      cut_in Leaf n l y = (y.0, λ i li t u b e. ap (kept_row (address n i)) (y.1 i li t u b e))
      cut_in (Scope g) n l y = (y.0, y.1, cut_sound g l y.2)
      cut_in (Choice bs) n l y = (y.0, y.1, cut_any bs l y.2)
      cut_in (Foreach pace g) n l y = (y.0, y.1, cut_sound g (suc l) y.2)
      cut_in (Until most g) n l y = (y.0, y.1, y.2, cut_sound g (suc l) y.3)

      cut_any : (bs : Branches) (l : ℕ) → SoundAny m Sees bs l → SoundAny cut Sees bs l
      cut_any no_branch l y = tt
      cut_any (branch g rest) l y = (y.0, cut_sound g l y.1, cut_any rest l y.2)

      cut_sound : (g : Graph) (l : ℕ) → Sound m Sees g l → Sound cut Sees g l
      cut_sound done l y = tt
      cut_sound (add n after kind rest) l y = (y.0, y.1, y.2, cut_in kind n l y.3, cut_sound rest l y.4)

  -- ---- where nothing is left out, the rule is the same

  module _ (f : Table Row) (x : Address) (same : (z : Address) → leaf cut z f ≡ leaf m z f) where
    met_same : (after : List Need) (i : List ℕ) → all_met cut after i f ≡ all_met m after i f
    met_same [] i = refl
    met_same (n ∷ ns) i =
        ap (λ b. b && all_met cut ns i f) (one (f (address n.name i)))
        ∙ ap (λ b. is_met m n.listed (f (address n.name i)) && b) (met_same ns i)
      where
        one : (o : Option Row) → is_met cut n.listed o ≡ is_met m n.listed o
        one None = refl
        one (Some r) = refl

    gate_same : (after : List Need) (n : ℕ) (i : List ℕ) → gate cut after n i f ≡ gate m after n i f
    gate_same after n i = ap (λ b. b && not (m.halts (address n i) f)) (met_same after i)

    sides_same : (c : ℕ) (i : List ℕ) (h k : ℕ → Table Row → Table Row) → ((j : ℕ) (z : Table Row) → h j z x ≡ k j z x)
        → sides c i h (λ y. None) x ≡ sides c i k (λ y. None) x
    sides_same zero i h k e = refl
    sides_same (suc c) i h k e = cond_same (starts (i ++ c ∷ []) x.at) _ _ _ _ (λ q. e c (λ y. None)) (λ q. sides_same c i h k e)

    mutual
      in_same : (kind : Kind) (n : ℕ) (i : List ℕ) → look_in cut kind n i f x ≡ look_in m kind n i f x
      in_same Leaf n i = ap (λ (row : Row). cond (is_own n i x) (Some row) None) (same (address n i))
      in_same (Scope g) n i =
          cond_same (is_own n i x) _ _ _ _ (λ q. refl) (λ q. only_same (is_within g i x) _ _ (λ z. look_same g i))
      in_same (Choice bs) n i =
          cond_same (is_own n i x) _ _ _ _ (λ q. refl)
          (λ q. only_same (is_among bs i x) _ _ (λ z. any_same bs (m.taken (m.decide (address n i) f)) i))
      in_same (Foreach pace g) n i =
          cond_same (is_own n i x) _ _ _ _ (λ q. refl)
          (λ q. only_same (is_within g i x) _ _
          (λ z. sides_same (m.items (m.decide (address n i) f)) i _ _ (λ j v. look_same g (i ++ j ∷ []))))
      in_same (Until most g) n i =
          cond_same (is_own n i x) _ _ _ _ (λ q. refl)
          (λ q. only_same (is_within g i x) _ _
          (λ z. sides_same (rounds most 0 (λ j. m.ends (m.test (address n i) j f))) i _ _ (λ j v. look_same g (i ++ j ∷ []))))

      any_same : (bs : Branches) (c : ℕ) (i : List ℕ) → look_any cut bs c i f x ≡ look_any m bs c i f x
      any_same no_branch c i = refl
      any_same (branch g rest) c i =
          cond_same (is_within g i x) _ _ _ _ (λ q. cond_same (is_one c) _ _ _ _ (λ z. look_same g i) (λ z. refl))
          (λ q. any_same rest (less_one c) i)

      look_same : (g : Graph) (i : List ℕ) → look cut g i f x ≡ look m g i f x
      look_same done i = refl
      look_same (add n after kind rest) i =
          cond_same (is_in n kind i x) _ _ _ _
          (λ q. cond_same (m.pinned n) _ _ _ _ (λ z. refl)
          (λ z. ap (λ c. cond (m.reclosed n || c) (look_in cut kind n i f x) (skip m n kind i x)) (gate_same after n i)
          ∙ cond_same (m.reclosed n || gate m after n i f) _ _ _ _ (λ v. in_same kind n i) (λ v. refl)))
          (λ q. look_same rest i)

  -- ---- all of it

  abbrev AllHold : Table Row → Type 0
  AllHold t = (y : Address) (row : Row) → t y ≡ Some row → holds y row ≡ true

  pub record Keeps (d : Graph) : Type 0 where
    pub skipped : (x : Address) → holds x m.skipped ≡ true
    pub others : (x : Address) (k : Kind) → kind_of d x.name ≡ Some k → (k ≡ Leaf → ⊥) → (row : Row) → holds x row ≡ true
    pub leaves : (t : Table Row) → AllHold t → (x : Address) → holds x (leaf m x t) ≡ true

  module _ (d : Graph) (depth : ℕ → ℕ) (falls : IsDepth d depth) (so : Sound m (SeenIn d) d 0) (fresh : IsFresh m) (once : Once d)
      (kinded : (n : ℕ) → has d n ≡ true → (k : Kind) × (kind_of d n ≡ Some k)) (keeps : Keeps d) where
    abbrev t : Table Row
    t = meaning cut depth d

    obeys_cut : Obeys cut d t
    obeys_cut = meaning_solves cut depth d falls (cut_sound (SeenIn d) d 0 so)

    kept_holds : (x : Address) (row : Row) → holds x (kept_row x row) ≡ true
    kept_holds x row = elim (two (holds x row)) [
      | inl h ↦ subst (λ (r : Row). holds x r ≡ true) (sym (when (holds x row) row m.skipped h)) h
      | inr o ↦ subst (λ (r : Row). holds x r ≡ true) (sym (unless (holds x row) row m.skipped o)) (keeps.skipped x)
    ]

    by_kind : (x : Address) (row : Row) (k : Kind) → kind_of d x.name ≡ Some k → Came cut t fresh x row k → holds x row ≡ true
    by_kind x row k is (inl same) = subst (λ (r : Row). holds x r ≡ true) (sym same) (keeps.skipped x)
    by_kind x row Leaf is (inr same) =
        subst (λ (r : Row). holds x r ≡ true) (sym same) (kept_holds x (m.finish x (m.start x t) t))
    by_kind x row (Scope g) is (inr same) = keeps.others x (Scope g) is (λ e. cc) row
    by_kind x row (Choice bs) is (inr same) = keeps.others x (Choice bs) is (λ e. cc) row
    by_kind x row (Foreach pace g) is (inr same) = keeps.others x (Foreach pace g) is (λ e. cc) row
    by_kind x row (Until most g) is (inr same) = keeps.others x (Until most g) is (λ e. cc) row

    all_cut : AllHold t
    all_cut x row there =
        let at = rows_at_instances d cut depth falls (cut_sound (SeenIn d) d 0 so) fresh x row there in
        let k = kinded x.name at.0 in
        by_kind x row k.0 k.1 (row_came cut t fresh x row d k.0 once obeys_cut at.0 k.1 there)

    nothing_cut : (z : Address) → leaf cut z t ≡ leaf m z t
    nothing_cut z = when (holds z (leaf m z t)) (leaf m z t) m.skipped (keeps.leaves t all_cut z)

    obeys_all : Obeys m d t
    obeys_all x w = obeys_cut x w ∙ look_same t x nothing_cut d []

    -- THE LEMMA
    pub all_hold : AllHold (meaning m depth d)
    all_hold x row there =
        let at = rows_at_instances d m depth falls so fresh x row there in
        all_cut x row
        (sym (all_unique m depth d falls so t obeys_all x (and_of (has d x.name) true at.0 refl)) ∙ there)
