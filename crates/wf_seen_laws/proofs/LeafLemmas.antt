-- The row of a leaf that isn't kept of an older table is that with which it ended, or a Skipped one.
use Rattle.std.proofs.Common.{◌≡◌, ℕ, zero, suc, Bool, true, false, ◌||◌, ◌&&◌, cond, List, [], ◌∷◌, ◌++◌, Option, Some, None, ◌⊎◌}
use Rattle.std.proofs.Common.{inl, inr, refl, sym, ap, ◌∙◌, subst, nat_eq, eqb-true, true≢false}
use Rattle.std.proofs.lemmas.Option.{none-some}
use Rattle.wf_layers.specs.Address.{Address, Table, address, is_among, is_in, is_own, is_within, same_at, starts}
use Rattle.wf_layers.specs.Definition.{Branches, Choice, Foreach, Graph, Kind, Leaf, Scope, Until, add, branch, done, has, holds}
use Rattle.wf_layers.specs.Definition.{is_one, kind_any, kind_in, kind_of, less_one, no_branch, plain, shows, Need}
use Rattle.wf_layers.specs.Meaning.{only, rounds, sides, skip, skip_all}
use Rattle.wf_layers.specs.Resubmission.{Split, SplitAny, SplitIn, kept}
use Rattle.wf_layers.specs.Rule.{Obeys, look, look_any, look_in}
use Rattle.wf_layers.specs.Source.{Source, gate, leaf}
use Rattle.wf_layers.proofs.Basics.{and_of, not_true, two, unless, when}
use Rattle.wf_layers.proofs.Tables.{own_is}
use Rattle.wf_loops.proofs.InsideLemmas.{kind_has}
use Rattle.wf_seen_laws.specs.Laws.{IsKept}

some_same : {A : Type 0} {u v : A} → Some u ≡ Some v → u ≡ v
some_same e = cc (e)

under : {A : Type 0} (b : Bool) (u : Option A) (r : A) → cond b u None ≡ Some r → (b ≡ true) × (u ≡ Some r)
under true u r e = (refl, e)
under false u r e = absurd (none-some r e)

module _ {Row Begun Decision Verdict : Type 0} (m : Source Row Begun Decision Verdict) (redo again : ℕ → Bool)
    (pins : (n : ℕ) → m.pinned n ≡ kept redo again n) (f : Table Row) (x : Address) (r : Row) (new : kept redo again x.name ≡ false) where
  abbrev Came : Type 0
  Came = (r ≡ m.skipped) ⊎ (r ≡ leaf m x f)

  skip_came : (b : Bool) → cond b (Some m.skipped) None ≡ Some r → Came
  skip_came true e = inl (some_same (sym e))
  skip_came false e = absurd (none-some r e)

  skipped_all : (g : Graph) (i : List ℕ) → skip_all m g i x ≡ Some r → Came
  skipped_all g i e =
      skip_came (plain g x.name && same_at i x.at)
      (sym (unless (m.pinned x.name) (m.old x) (cond (plain g x.name && same_at i x.at) (Some m.skipped) None)
      (pins x.name ∙ new)) ∙ e)

  leaf_came : (n : ℕ) (i : List ℕ) → only (is_own n i x) (Some (leaf m (address n i) f)) ≡ Some r → Came
  leaf_came n i e =
      let h = under (is_own n i x) (Some (leaf m (address n i) f)) r e in
      inr (sym (some_same h.1) ∙ ap (λ (y : Address). leaf m y f) (own_is n i x h.0))

  sides_came : (c : ℕ) (g : Graph) (i : List ℕ)
      → ((j : ℕ) → starts (i ++ j ∷ []) x.at ≡ true → look m g (i ++ j ∷ []) f x ≡ Some r → Came)
      → sides c i (λ j t. look m g (i ++ j ∷ []) f) (λ y. None) x ≡ Some r → Came
  sides_came zero g i came e = absurd (none-some r e)
  sides_came (suc j) g i came e = elim (two (starts (i ++ j ∷ []) x.at)) [
    | inl t ↦ came j t (sym (when (starts (i ++ j ∷ []) x.at) (look m g (i ++ j ∷ []) f x)
        (sides j i (λ j t. look m g (i ++ j ∷ []) f) (λ y. None) x) t) ∙ e)
    | inr o ↦ sides_came j g i came (sym (unless (starts (i ++ j ∷ []) x.at) (look m g (i ++ j ∷ []) f x)
        (sides j i (λ j t. look m g (i ++ j ∷ []) f) (λ y. None) x) o) ∙ e)
  ]

  inner : (n : ℕ) (i : List ℕ) (v u : Option Row) (p : Bool) → nat_eq n x.name ≡ false → cond (is_own n i x) v (only p u) ≡ Some r
      → u ≡ Some r
  inner n i v u p other e =
      (under p u r (sym (unless (is_own n i x) v (only p u) (ap (λ (b : Bool). b && same_at i x.at) other)) ∙ e)).1

  mutual
    -- inside an action that isn't x's
    came_in : (kind : Kind) (n : ℕ) (i : List ℕ) → SplitIn redo again kind n → starts i x.at ≡ true → nat_eq n x.name ≡ false
        → kind_in kind x.name ≡ Some Leaf → look_in m kind n i f x ≡ Some r → Came
    came_in Leaf n i split s other is e = absurd (none-some Leaf is)
    came_in (Scope g) n i split s other is e = came g i split s is (inner n i _ (look m g i f x) (is_within g i x) other e)
    came_in (Choice bs) n i split s other is e =
        came_any bs (m.taken (m.decide (address n i) f)) i split s is
        (inner n i _ (look_any m bs (m.taken (m.decide (address n i) f)) i f x) (is_among bs i x) other e)
    came_in (Foreach pace g) n i split s other is e =
        let c = m.items (m.decide (address n i) f) in
        sides_came c g i (λ j t h. came g (i ++ j ∷ []) split.2 t is h)
        (inner n i _ (sides c i (λ j t. look m g (i ++ j ∷ []) f) (λ y. None) x) (is_within g i x) other e)
    came_in (Until most g) n i split s other is e =
        let c = rounds most 0 (λ j. m.ends (m.test (address n i) j f)) in
        sides_came c g i (λ j t h. came g (i ++ j ∷ []) split.2 t is h)
        (inner n i _ (sides c i (λ j t. look m g (i ++ j ∷ []) f) (λ y. None) x) (is_within g i x) other e)

    came_any : (bs : Branches) (c : ℕ) (i : List ℕ) → SplitAny redo again bs → starts i x.at ≡ true → kind_any bs x.name ≡ Some Leaf
        → look_any m bs c i f x ≡ Some r → Came
    came_any no_branch c i split s is e = absurd (none-some Leaf is)
    came_any (branch b rest) c i split s is e = elim (two (has b x.name)) [
      | inl t ↦
          let here = sym (when (is_within b i x) (cond (is_one c) (look m b i f x) (skip_all m b i x)) (look_any m rest (less_one c) i f x)
          (and_of (has b x.name) (starts i x.at) t s)) ∙ e in
          let kind = sym (when (has b x.name) (kind_of b x.name) (kind_any rest x.name) t) ∙ is in
          elim (two (is_one c)) [
            | inl one ↦ came b i split.0 s kind (sym (when (is_one c) (look m b i f x) (skip_all m b i x) one) ∙ here)
            | inr more ↦ skipped_all b i (sym (unless (is_one c) (look m b i f x) (skip_all m b i x) more) ∙ here)
          ]
      | inr o ↦
          came_any rest (less_one c) i split.1 s (sym (unless (has b x.name) (kind_of b x.name) (kind_any rest x.name) o) ∙ is)
          (sym (unless (is_within b i x) (cond (is_one c) (look m b i f x) (skip_all m b i x)) (look_any m rest (less_one c) i f x)
          (ap (λ (p : Bool). p && starts i x.at) o)) ∙ e)
    ]

    came : (g : Graph) (i : List ℕ) → Split redo again g → starts i x.at ≡ true → kind_of g x.name ≡ Some Leaf
        → look m g i f x ≡ Some r → Came
    came done i split s is e = absurd (none-some Leaf is)
    came (add n after kind rest) i split s is e = elim (two (nat_eq n x.name)) [
      | inl t ↦
          let same : kind ≡ Leaf = some_same (sym (when (nat_eq n x.name) (Some kind)
          (cond (holds kind x.name) (kind_in kind x.name) (kind_of rest x.name)) t) ∙ is) in
          ran n after kind i (here n after kind rest i e
          (pins n ∙ subst (λ (q : ℕ). kept redo again q ≡ false) (sym (eqb-true n x.name t)) new)
          (and_of (nat_eq n x.name || holds kind x.name) (starts i x.at) (ap (λ (b : Bool). b || holds kind x.name) t) s))
          (λ q. leaf_came n i (subst (λ (k : Kind). look_in m k n i f x ≡ Some r) same q))
      | inr o ↦
          let is' = sym (unless (nat_eq n x.name) (Some kind)
          (cond (holds kind x.name) (kind_in kind x.name) (kind_of rest x.name)) o) ∙ is in
          elim (two (holds kind x.name)) [
            | inl h ↦
                ran n after kind i (here n after kind rest i e
                (pins n ∙ not_true (kept redo again n) (λ t. true≢false (sym (split.1 t x.name h) ∙ new)))
                (and_of (nat_eq n x.name || holds kind x.name) (starts i x.at)
                (ap (λ (b : Bool). b || holds kind x.name) o ∙ h) s))
                (λ q. came_in kind n i split.2 s o (sym (when (holds kind x.name) (kind_in kind x.name) (kind_of rest x.name) h) ∙ is') q)
            | inr out ↦
                came rest i split.3 s (sym (unless (holds kind x.name) (kind_in kind x.name) (kind_of rest x.name) out) ∙ is')
                (sym (unless (is_in n kind i x) _ (look m rest i f x)
                (ap (λ (b : Bool). (b || holds kind x.name) && starts i x.at) o
                ∙ ap (λ (b : Bool). b && starts i x.at) out)) ∙ e)
          ]
    ]
      where
        here : (n : ℕ) (after : List Need) (kind : Kind) (rest : Graph) (i : List ℕ) → look m (add n after kind rest) i f x ≡ Some r
            → m.pinned n ≡ false → is_in n kind i x ≡ true
            → cond (m.reclosed n || gate m after n i f) (look_in m kind n i f x) (skip m n kind i x) ≡ Some r
        here n after kind rest i e free w =
            sym (unless (m.pinned n) (m.old x)
            (cond (m.reclosed n || gate m after n i f) (look_in m kind n i f x) (skip m n kind i x)) free)
            ∙ (sym (when (is_in n kind i x) _ (look m rest i f x) w) ∙ e)

        ran : (n : ℕ) (after : List Need) (kind : Kind) (i : List ℕ)
            → cond (m.reclosed n || gate m after n i f) (look_in m kind n i f x) (skip m n kind i x) ≡ Some r
            → (look_in m kind n i f x ≡ Some r → Came) → Came
        ran n after kind i e next = elim (two (m.reclosed n || gate m after n i f)) [
          | inl t ↦ next (sym (when (m.reclosed n || gate m after n i f) (look_in m kind n i f x) (skip m n kind i x) t) ∙ e)
          | inr o ↦ skip_came ((nat_eq n x.name || shows kind x.name) && same_at i x.at)
              (sym (unless (m.reclosed n || gate m after n i f) (look_in m kind n i f x) (skip m n kind i x) o) ∙ e)
        ]

-- THE LAW
pub new_leaf : {Row Begun Decision Verdict : Type 0} (g : Graph) (m : Source Row Begun Decision Verdict) (redo again : ℕ → Bool)
    (f : Table Row) → IsKept g m redo again → Obeys m g f → (x : Address) (r : Row) → f x ≡ Some r → kept redo again x.name ≡ false
    → kind_of g x.name ≡ Some Leaf → (r ≡ m.skipped) ⊎ (r ≡ leaf m x f)
new_leaf g m redo again f keeps obeys x r there new is =
    came m redo again keeps.pinned f x r new g [] keeps.split refl is
    (sym (obeys x (and_of (has g x.name) true (kind_has g x.name Leaf is) refl)) ∙ there)
