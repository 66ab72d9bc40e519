-- The row of an action is a Skipped one, or the one with which it ended.
use Rattle.std.proofs.Common.{◌≡◌, ℕ, zero, suc, Bool, true, false, ◌||◌, ◌&&◌, cond, List, [], ◌∷◌, ◌++◌, Option, Some, None, ◌⊎◌}
use Rattle.std.proofs.Common.{inl, inr, refl, sym, ap, ◌∙◌, subst, nat_eq, eqb-true, true≢false}
use Rattle.std.proofs.lemmas.Option.{none-some}
use Rattle.wf_layers.specs.Address.{Address, Table, address, is_among, is_in, is_own, is_within, same_at, starts}
use Rattle.wf_layers.specs.Definition.{Branches, Choice, Foreach, Graph, Kind, Leaf, Scope, Until, add, branch, done, has, holds}
use Rattle.wf_layers.specs.Definition.{is_one, kind_any, kind_in, kind_of, less_one, no_branch, plain, shows, Need}
use Rattle.wf_layers.specs.Laws.{IsFresh}
use Rattle.wf_layers.specs.Meaning.{last, only, rounds, sides, skip, skip_all}
use Rattle.wf_layers.specs.Rule.{Obeys, look, look_any, look_in}
use Rattle.wf_layers.specs.Seen.{Once, OnceAny, OnceIn}
use Rattle.wf_layers.specs.Source.{Source, gate, leaf}
use Rattle.wf_layers.proofs.Basics.{and_in, and_of, two, unless, when}
use Rattle.wf_layers.proofs.Tables.{own_is}

some_same : {A : Type 0} {u v : A} → Some u ≡ Some v → u ≡ v
some_same e = cc (e)

clash : (b : Bool) → b ≡ true → b ≡ false → ⊥
clash b yes' no' = true≢false (sym yes' ∙ no')

under : {A : Type 0} (b : Bool) (u : Option A) (r : A) → cond b u None ≡ Some r → (b ≡ true) × (u ≡ Some r)
under true u r e = (refl, e)
under false u r e = absurd (none-some r e)

module _ {Row Begun Decision Verdict : Type 0} (m : Source Row Begun Decision Verdict) (f : Table Row) where
  -- how often an Until there goes round, by the rows f
  abbrev pub went_round : ℕ → Address → ℕ
  went_round most x = rounds most 0 (λ j. m.ends (m.test x j f))

  -- the row with which an action of this kind ends there
  abbrev pub ended : Kind → Address → Row
  ended Leaf x = leaf m x f
  ended (Scope g) x = m.close x (m.decide x f) 0 None f
  ended (Choice bs) x = m.close x (m.decide x f) 0 None f
  ended (Foreach pace g) x = m.close x (m.decide x f) 0 None f
  ended (Until most g) x =
      m.close x (m.decide x f) (went_round most x) (last (went_round most x) (λ j. m.test x j f)) f

  module _ (own : IsFresh m) (x : Address) (r : Row) where
    abbrev pub Came : Kind → Type 0
    Came k = (r ≡ m.skipped) ⊎ (r ≡ ended k x)

    skip_came : (k : Kind) (b : Bool) → cond b (Some m.skipped) None ≡ Some r → Came k
    skip_came k true e = inl (some_same (sym e))
    skip_came k false e = absurd (none-some r e)

    skipped_all : (k : Kind) (g : Graph) (i : List ℕ) → skip_all m g i x ≡ Some r → Came k
    skipped_all k g i e =
        skip_came k (plain g x.name && same_at i x.at)
        (sym (unless (m.pinned x.name) (m.old x) (cond (plain g x.name && same_at i x.at) (Some m.skipped) None) (own x.name).0) ∙ e)

    -- the action's own row: nothing inside it has its number
    at_own : (n : ℕ) (i : List ℕ) (v : Row) (u : Option Row) (p : Bool) → (p ≡ true → ⊥) → cond (is_own n i x) (Some v) (only p u) ≡ Some r
        → (address n i ≡ x) × (r ≡ v)
    at_own n i v u p out e = elim (two (is_own n i x)) [
      | inl t ↦ (own_is n i x t, some_same (sym e ∙ when (is_own n i x) (Some v) (only p u) t))
      | inr o ↦ absurd (out (under p u r (sym (unless (is_own n i x) (Some v) (only p u) o) ∙ e)).0)
    ]

    not_inside : (kind : Kind) (n : ℕ) → holds kind n ≡ false → nat_eq n x.name ≡ true → (q : Bool) → (holds kind x.name && q) ≡ true → ⊥
    not_inside kind n out same q e =
        clash (holds kind x.name) (and_in (holds kind x.name) q e).0 (ap (holds kind) (sym (eqb-true n x.name same)) ∙ out)

    own_came : (kind : Kind) (n : ℕ) (i : List ℕ) → holds kind n ≡ false → nat_eq n x.name ≡ true → look_in m kind n i f x ≡ Some r
        → Came kind
    own_came Leaf n i out same e =
        let h = under (is_own n i x) (Some (leaf m (address n i) f)) r e in
        inr (sym (some_same h.1) ∙ ap (λ (y : Address). leaf m y f) (own_is n i x h.0))
    own_came (Scope g) n i out same e =
        let h = at_own n i (ended (Scope g) (address n i)) (look m g i f x) (is_within g i x)
        (not_inside (Scope g) n out same (starts i x.at)) e in
        inr (h.1 ∙ ap (ended (Scope g)) h.0)
    own_came (Choice bs) n i out same e =
        let h = at_own n i (ended (Choice bs) (address n i)) (look_any m bs (m.taken (m.decide (address n i) f)) i f x) (is_among bs i x)
        (not_inside (Choice bs) n out same (starts i x.at)) e in
        inr (h.1 ∙ ap (ended (Choice bs)) h.0)
    own_came (Foreach pace g) n i out same e =
        let h = at_own n i (ended (Foreach pace g) (address n i)) _ (is_within g i x)
        (not_inside (Foreach pace g) n out same (starts i x.at)) e in
        inr (h.1 ∙ ap (ended (Foreach pace g)) h.0)
    own_came (Until most g) n i out same e =
        let h = at_own n i (ended (Until most g) (address n i)) _ (is_within g i x)
        (not_inside (Until most g) n out same (starts i x.at)) e in
        inr (h.1 ∙ ap (ended (Until most g)) h.0)

    sides_came : (k : Kind) (c : ℕ) (g : Graph) (i : List ℕ)
        → ((j : ℕ) → starts (i ++ j ∷ []) x.at ≡ true → look m g (i ++ j ∷ []) f x ≡ Some r → Came k)
        → sides c i (λ j t. look m g (i ++ j ∷ []) f) (λ y. None) x ≡ Some r → Came k
    sides_came k zero g i came e = absurd (none-some r e)
    sides_came k (suc j) g i came e = elim (two (starts (i ++ j ∷ []) x.at)) [
      | inl t ↦ came j t (sym (when (starts (i ++ j ∷ []) x.at) (look m g (i ++ j ∷ []) f x)
          (sides j i (λ j t. look m g (i ++ j ∷ []) f) (λ y. None) x) t) ∙ e)
      | inr o ↦ sides_came k j g i came (sym (unless (starts (i ++ j ∷ []) x.at) (look m g (i ++ j ∷ []) f x)
          (sides j i (λ j t. look m g (i ++ j ∷ []) f) (λ y. None) x) o) ∙ e)
    ]

    inner : (n : ℕ) (i : List ℕ) (v u : Option Row) (p : Bool) → nat_eq n x.name ≡ false → cond (is_own n i x) v (only p u) ≡ Some r
        → u ≡ Some r
    inner n i v u p other e =
        (under p u r (sym (unless (is_own n i x) v (only p u) (ap (λ (b : Bool). b && same_at i x.at) other)) ∙ e)).1

    here : (n : ℕ) (after : List Need) (kind : Kind) (rest : Graph) (i : List ℕ) → look m (add n after kind rest) i f x ≡ Some r
        → is_in n kind i x ≡ true → cond (gate m after n i f) (look_in m kind n i f x) (skip m n kind i x) ≡ Some r
    here n after kind rest i e w =
        sym (ap (λ (b : Bool). cond (b || gate m after n i f) (look_in m kind n i f x) (skip m n kind i x)) (own n).1)
        ∙ (sym (unless (m.pinned n) (m.old x)
        (cond (m.reclosed n || gate m after n i f) (look_in m kind n i f x) (skip m n kind i x)) (own n).0)
        ∙ (sym (when (is_in n kind i x) _ (look m rest i f x) w) ∙ e))

    ran : (k : Kind) (n : ℕ) (after : List Need) (kind : Kind) (i : List ℕ)
        → cond (gate m after n i f) (look_in m kind n i f x) (skip m n kind i x) ≡ Some r
        → (look_in m kind n i f x ≡ Some r → Came k) → Came k
    ran k n after kind i e next = elim (two (gate m after n i f)) [
      | inl t ↦ next (sym (when (gate m after n i f) (look_in m kind n i f x) (skip m n kind i x) t) ∙ e)
      | inr o ↦ skip_came k ((nat_eq n x.name || shows kind x.name) && same_at i x.at)
          (sym (unless (gate m after n i f) (look_in m kind n i f x) (skip m n kind i x) o) ∙ e)
    ]

    mutual
      -- inside an action that isn't x's
      came_in : (k : Kind) (kind : Kind) (n : ℕ) (i : List ℕ) → OnceIn kind → starts i x.at ≡ true → nat_eq n x.name ≡ false
          → kind_in kind x.name ≡ Some k → look_in m kind n i f x ≡ Some r → Came k
      came_in k Leaf n i once s other is e = absurd (none-some k is)
      came_in k (Scope g) n i once s other is e = came k g i once s is (inner n i _ (look m g i f x) (is_within g i x) other e)
      came_in k (Choice bs) n i once s other is e =
          came_any k bs (m.taken (m.decide (address n i) f)) i once s is
          (inner n i _ (look_any m bs (m.taken (m.decide (address n i) f)) i f x) (is_among bs i x) other e)
      came_in k (Foreach pace g) n i once s other is e =
          let c = m.items (m.decide (address n i) f) in
          sides_came k c g i (λ j t h. came k g (i ++ j ∷ []) once t is h)
          (inner n i _ (sides c i (λ j t. look m g (i ++ j ∷ []) f) (λ y. None) x) (is_within g i x) other e)
      came_in k (Until most g) n i once s other is e =
          let c = rounds most 0 (λ j. m.ends (m.test (address n i) j f)) in
          sides_came k c g i (λ j t h. came k g (i ++ j ∷ []) once t is h)
          (inner n i _ (sides c i (λ j t. look m g (i ++ j ∷ []) f) (λ y. None) x) (is_within g i x) other e)

      came_any : (k : Kind) (bs : Branches) (c : ℕ) (i : List ℕ) → OnceAny bs → starts i x.at ≡ true → kind_any bs x.name ≡ Some k
          → look_any m bs c i f x ≡ Some r → Came k
      came_any k no_branch c i once s is e = absurd (none-some k is)
      came_any k (branch b rest) c i once s is e = elim (two (has b x.name)) [
        | inl t ↦
            let here' = sym (when (is_within b i x) (cond (is_one c) (look m b i f x) (skip_all m b i x))
            (look_any m rest (less_one c) i f x)
            (and_of (has b x.name) (starts i x.at) t s)) ∙ e in
            let kind = sym (when (has b x.name) (kind_of b x.name) (kind_any rest x.name) t) ∙ is in
            elim (two (is_one c)) [
              | inl one ↦ came k b i once.1 s kind (sym (when (is_one c) (look m b i f x) (skip_all m b i x) one) ∙ here')
              | inr more ↦ skipped_all k b i (sym (unless (is_one c) (look m b i f x) (skip_all m b i x) more) ∙ here')
            ]
        | inr o ↦
            came_any k rest (less_one c) i once.2 s (sym (unless (has b x.name) (kind_of b x.name) (kind_any rest x.name) o) ∙ is)
            (sym (unless (is_within b i x) (cond (is_one c) (look m b i f x) (skip_all m b i x)) (look_any m rest (less_one c) i f x)
            (ap (λ (p : Bool). p && starts i x.at) o)) ∙ e)
      ]

      came : (k : Kind) (g : Graph) (i : List ℕ) → Once g → starts i x.at ≡ true → kind_of g x.name ≡ Some k → look m g i f x ≡ Some r
          → Came k
      came k done i once s is e = absurd (none-some k is)
      came k (add n after kind rest) i once s is e = elim (two (nat_eq n x.name)) [
        | inl t ↦
            let same : kind ≡ k = some_same (sym (when (nat_eq n x.name) (Some kind)
            (cond (holds kind x.name) (kind_in kind x.name) (kind_of rest x.name)) t) ∙ is) in
            ran k n after kind i (here n after kind rest i e (and_of (nat_eq n x.name || holds kind x.name) (starts i x.at)
            (ap (λ (b : Bool). b || holds kind x.name) t) s))
            (λ q. subst Came same (own_came kind n i once.0 t q))
        | inr o ↦
            let is' = sym (unless (nat_eq n x.name) (Some kind)
            (cond (holds kind x.name) (kind_in kind x.name) (kind_of rest x.name)) o) ∙ is in
            elim (two (holds kind x.name)) [
              | inl h ↦
                  ran k n after kind i (here n after kind rest i e (and_of (nat_eq n x.name || holds kind x.name) (starts i x.at)
                  (ap (λ (b : Bool). b || holds kind x.name) o ∙ h) s))
                  (λ q. came_in k kind n i once.2 s o
                  (sym (when (holds kind x.name) (kind_in kind x.name) (kind_of rest x.name) h) ∙ is') q)
              | inr out ↦
                  came k rest i once.3 s (sym (unless (holds kind x.name) (kind_in kind x.name) (kind_of rest x.name) out) ∙ is')
                  (sym (unless (is_in n kind i x) _ (look m rest i f x)
                  (ap (λ (b : Bool). (b || holds kind x.name) && starts i x.at) o
                  ∙ ap (λ (b : Bool). b && starts i x.at) out)) ∙ e)
            ]
      ]

    -- THE LEMMA
    pub row_came : (g : Graph) (k : Kind) → Once g → Obeys m g f → has g x.name ≡ true → kind_of g x.name ≡ Some k → f x ≡ Some r → Came k
    row_came g k once obeys has' is there =
        came k g [] once refl is (sym (obeys x (and_of (has g x.name) true has' refl)) ∙ there)
