-- A row that isn't kept of an older table stands at an instance: its address has one index for every loop round its action.
use Rattle.std.proofs.Common.{◌≡◌, ℕ, zero, suc, ◌+◌, Bool, true, false, ◌||◌, ◌&&◌, cond, List, [], ◌∷◌, ◌++◌, length, Option, Some, None}
use Rattle.std.proofs.Common.{inl, inr, refl, sym, ap, ◌∙◌, subst, arith, nat_eq, eqb-true, true≢false, length-append}
use Rattle.std.proofs.lemmas.Option.{none-some}
use Rattle.wf_layers.specs.Address.{Address, Table, address, is_among, is_in, is_own, is_within, same_at, starts}
use Rattle.wf_layers.specs.Definition.{Branches, Choice, Foreach, Graph, Kind, Leaf, Need, Scope, Until, add, branch, done, has, has_any}
use Rattle.wf_layers.specs.Definition.{holds, is_one, less_one, no_branch, plain, plain_any, shows}
use Rattle.wf_layers.specs.Instances.{loop_count, loop_count_any, loop_count_in}
use Rattle.wf_layers.specs.Meaning.{only, rounds, sides, skip, skip_all}
use Rattle.wf_layers.specs.Resubmission.{Split, SplitAny, SplitIn, kept}
use Rattle.wf_layers.specs.Rule.{Obeys, look, look_any, look_in}
use Rattle.wf_layers.specs.Seen.{Once, OnceAny, OnceIn}
use Rattle.wf_layers.specs.Source.{Source, gate}
use Rattle.wf_layers.proofs.Basics.{and_in, and_of, not_true, or_first, two, unless, when}
use Rattle.wf_layers.proofs.Tables.{any_plain, plain_has, same_at_is, shows_holds, skip_all_in, skip_in}
use Rattle.wf_loops.proofs.HeldLemmas.{not_first, passed}
use Rattle.wf_seen_laws.specs.Laws.{IsKept}

behind : (p q : Bool) → p ≡ false → (p || q) ≡ true → q ≡ true
behind true q off is = absurd (true≢false off)
behind false q off is = is

neither : (p q : Bool) → (p || q) ≡ false → (p ≡ false) × (q ≡ false)
neither true q off = absurd (true≢false off)
neither false q off = (refl, off)

-- ---- round what stands in no loop there is none

count_none : (g : Graph) (q : ℕ) → has g q ≡ false → loop_count g q ≡ 0
count_none done q off = refl
count_none (add n after kind rest) q off =
    let h = neither (nat_eq n q || holds kind q) (has rest q) off in
    unless (holds kind q) (loop_count_in kind q) (loop_count rest q) (neither (nat_eq n q) (holds kind q) h.0).1 ∙ count_none rest q h.1

-- an action is in no loop of its own graph
count_own : (n : ℕ) (after : List Need) (kind : Kind) (rest : Graph) → Once (add n after kind rest) → (q : ℕ) → nat_eq n q ≡ true
    → loop_count (add n after kind rest) q ≡ 0
count_own n after kind rest once q own =
    unless (holds kind q) (loop_count_in kind q) (loop_count rest q)
    (subst (λ (p : ℕ). holds kind p ≡ false) (eqb-true n q own) once.0)
    ∙ count_none rest q (once.1 q (or_first (nat_eq n q) (holds kind q) own))

mutual
  count_shown : (kind : Kind) → OnceIn kind → (q : ℕ) → shows kind q ≡ true → loop_count_in kind q ≡ 0
  count_shown Leaf once q is = refl
  count_shown (Scope g) once q is = count_plain g once q is
  count_shown (Choice bs) once q is = count_branches bs once q is
  count_shown (Foreach pace g) once q is = absurd (true≢false (sym is))
  count_shown (Until most g) once q is = absurd (true≢false (sym is))

  count_branches : (bs : Branches) → OnceAny bs → (q : ℕ) → plain_any bs q ≡ true → loop_count_any bs q ≡ 0
  count_branches no_branch once q is = refl
  count_branches (branch b rest) once q is = elim (two (plain b q)) [
    | inl t ↦ when (has b q) (loop_count b q) (loop_count_any rest q) (plain_has b q t) ∙ count_plain b once.1 q t
    | inr f ↦
        let later = behind (plain b q) (plain_any rest q) f is in
        unless (has b q) (loop_count b q) (loop_count_any rest q) (not_first rest q b (any_plain rest q later) once.0)
        ∙ count_branches rest once.2 q later
  ]

  count_plain : (g : Graph) → Once g → (q : ℕ) → plain g q ≡ true → loop_count g q ≡ 0
  count_plain done once q is = refl
  count_plain (add n after kind rest) once q is = elim (two (shows kind q)) [
    | inl t ↦ when (holds kind q) (loop_count_in kind q) (loop_count rest q) (shows_holds kind q t) ∙ count_shown kind once.2 q t
    | inr f ↦ elim (two (nat_eq n q)) [
      | inl own ↦ count_own n after kind rest once q own
      | inr other ↦
          let later = behind (nat_eq n q || shows kind q) (plain rest q) (ap (λ (b : Bool). b || shows kind q) other ∙ f) is in
          unless (holds kind q) (loop_count_in kind q) (loop_count rest q) (passed n kind rest once.1 q (plain_has rest q later)).1
          ∙ count_plain rest once.3 q later
    ]
  ]

under : {A : Type 0} (b : Bool) (u : Option A) (r : A) → cond b u None ≡ Some r → (b ≡ true) × (u ≡ Some r)
under true u r e = (refl, e)
under false u r e = absurd (none-some r e)

module _ {Row Begun Decision Verdict : Type 0} (m : Source Row Begun Decision Verdict) (redo again : ℕ → Bool)
    (pins : (n : ℕ) → m.pinned n ≡ kept redo again n) (f : Table Row) (x : Address) (r : Row) (new : kept redo again x.name ≡ false) where
  -- so many indexes more than these
  abbrev Full : List ℕ → ℕ → Type 0
  Full i c = length x.at ≡ length i + c

  at_itself : (i : List ℕ) (c : ℕ) → same_at i x.at ≡ true → c ≡ 0 → Full i c
  at_itself i c same none = omega (arith, ap length (same_at_is i x.at same), none)

  -- the row of an action itself, and what it is not
  own_of : (b h s : Bool) (v u : Option Row) → h ≡ false → cond b v (only (h && s) u) ≡ Some r → b ≡ true
  own_of true h s v u off e = refl
  own_of false h s v u off e = absurd (none-some r (sym (unless (h && s) u None (ap (λ (p : Bool). p && s) off)) ∙ e))

  own_at : (kind : Kind) (n : ℕ) (i : List ℕ) → holds kind x.name ≡ false → look_in m kind n i f x ≡ Some r → is_own n i x ≡ true
  own_at Leaf n i off e = (under (is_own n i x) _ r e).0
  own_at (Scope g) n i off e = own_of (is_own n i x) (has g x.name) (starts i x.at) _ _ off e
  own_at (Choice bs) n i off e = own_of (is_own n i x) (has_any bs x.name) (starts i x.at) _ _ off e
  own_at (Foreach pace g) n i off e = own_of (is_own n i x) (has g x.name) (starts i x.at) _ _ off e
  own_at (Until most g) n i off e = own_of (is_own n i x) (has g x.name) (starts i x.at) _ _ off e

  inner : (n : ℕ) (i : List ℕ) (v u : Option Row) (p : Bool) → nat_eq n x.name ≡ false → cond (is_own n i x) v (only p u) ≡ Some r
      → u ≡ Some r
  inner n i v u p other e =
      (under p u r (sym (unless (is_own n i x) v (only p u) (ap (λ (b : Bool). b && same_at i x.at) other)) ∙ e)).1

  by_turn : (c : ℕ) (g : Graph) (i : List ℕ) (P : Type 0)
      → ((j : ℕ) → starts (i ++ j ∷ []) x.at ≡ true → look m g (i ++ j ∷ []) f x ≡ Some r → P)
      → sides c i (λ j t. look m g (i ++ j ∷ []) f) (λ y. None) x ≡ Some r → P
  by_turn zero g i P each e = absurd (none-some r e)
  by_turn (suc j) g i P each e = elim (two (starts (i ++ j ∷ []) x.at)) [
    | inl t ↦ each j t (sym (when (starts (i ++ j ∷ []) x.at) (look m g (i ++ j ∷ []) f x)
        (sides j i (λ j t. look m g (i ++ j ∷ []) f) (λ y. None) x) t) ∙ e)
    | inr o ↦ by_turn j g i P each (sym (unless (starts (i ++ j ∷ []) x.at) (look m g (i ++ j ∷ []) f x)
        (sides j i (λ j t. look m g (i ++ j ∷ []) f) (λ y. None) x) o) ∙ e)
  ]

  deeper : (i : List ℕ) (j c : ℕ) → Full (i ++ j ∷ []) c → Full i (suc c)
  deeper i j c full = omega (arith, full, length-append i (j ∷ []))

  mutual
    full_in : (kind : Kind) (n : ℕ) (i : List ℕ) → OnceIn kind → SplitIn redo again kind n → starts i x.at ≡ true
        → nat_eq n x.name ≡ false → holds kind x.name ≡ true → look_in m kind n i f x ≡ Some r → Full i (loop_count_in kind x.name)
    full_in Leaf n i once split s other held e = absurd (true≢false (sym held))
    full_in (Scope g) n i once split s other held e =
        full_of g i once split s held (inner n i _ (look m g i f x) (is_within g i x) other e)
    full_in (Choice bs) n i once split s other held e =
        full_any bs (m.taken (m.decide (address n i) f)) i once split s held
        (inner n i _ (look_any m bs (m.taken (m.decide (address n i) f)) i f x) (is_among bs i x) other e)
    full_in (Foreach pace g) n i once split s other held e =
        let c = m.items (m.decide (address n i) f) in
        by_turn c g i (Full i (suc (loop_count g x.name)))
        (λ j t h. deeper i j (loop_count g x.name) (full_of g (i ++ j ∷ []) once split.2 t held h))
        (inner n i _ (sides c i (λ j t. look m g (i ++ j ∷ []) f) (λ y. None) x) (is_within g i x) other e)
    full_in (Until most g) n i once split s other held e =
        let c = rounds most 0 (λ j. m.ends (m.test (address n i) j f)) in
        by_turn c g i (Full i (suc (loop_count g x.name)))
        (λ j t h. deeper i j (loop_count g x.name) (full_of g (i ++ j ∷ []) once split.2 t held h))
        (inner n i _ (sides c i (λ j t. look m g (i ++ j ∷ []) f) (λ y. None) x) (is_within g i x) other e)

    full_any : (bs : Branches) (c : ℕ) (i : List ℕ) → OnceAny bs → SplitAny redo again bs → starts i x.at ≡ true
        → has_any bs x.name ≡ true → look_any m bs c i f x ≡ Some r → Full i (loop_count_any bs x.name)
    full_any no_branch c i once split s held e = absurd (none-some r e)
    full_any (branch b rest) c i once split s held e = elim (two (has b x.name)) [
      | inl t ↦
          let here = sym (when (is_within b i x) (cond (is_one c) (look m b i f x) (skip_all m b i x)) (look_any m rest (less_one c) i f x)
          (and_of (has b x.name) (starts i x.at) t s)) ∙ e in
          subst (Full i) (sym (when (has b x.name) (loop_count b x.name) (loop_count_any rest x.name) t))
          (elim (two (is_one c)) [
            | inl one ↦ full_of b i once.1 split.0 s t (sym (when (is_one c) (look m b i f x) (skip_all m b i x) one) ∙ here)
            | inr more ↦
                let skipped = skip_all_in m b i x r (pins x.name ∙ new)
                (sym (unless (is_one c) (look m b i f x) (skip_all m b i x) more) ∙ here) in
                at_itself i (loop_count b x.name) skipped.1 (count_plain b once.1 x.name skipped.0)
          ])
      | inr o ↦
          subst (Full i) (sym (unless (has b x.name) (loop_count b x.name) (loop_count_any rest x.name) o))
          (full_any rest (less_one c) i once.2 split.1 s (behind (has b x.name) (has_any rest x.name) o held)
          (sym (unless (is_within b i x) (cond (is_one c) (look m b i f x) (skip_all m b i x)) (look_any m rest (less_one c) i f x)
          (ap (λ (p : Bool). p && starts i x.at) o)) ∙ e))
    ]

    full_of : (g : Graph) (i : List ℕ) → Once g → Split redo again g → starts i x.at ≡ true → has g x.name ≡ true
        → look m g i f x ≡ Some r → Full i (loop_count g x.name)
    full_of done i once split s held e = absurd (none-some r e)
    full_of (add n after kind rest) i once split s held e = elim (two (nat_eq n x.name)) [
      | inl t ↦
          at_itself i (loop_count (add n after kind rest) x.name)
          (ran n after kind i (here n after kind rest i e
          (pins n ∙ subst (λ (q : ℕ). kept redo again q ≡ false) (sym (eqb-true n x.name t)) new)
          (and_of (nat_eq n x.name || holds kind x.name) (starts i x.at) (or_first (nat_eq n x.name) (holds kind x.name) t) s))
          (same_at i x.at ≡ true)
          (λ q. (and_in (nat_eq n x.name) (same_at i x.at)
          (own_at kind n i (subst (λ (p : ℕ). holds kind p ≡ false) (eqb-true n x.name t) once.0) q)).1)
          (λ shown same. same))
          (count_own n after kind rest once x.name t)
      | inr o ↦ elim (two (holds kind x.name)) [
        | inl h ↦
            subst (Full i) (sym (when (holds kind x.name) (loop_count_in kind x.name) (loop_count rest x.name) h))
            (ran n after kind i (here n after kind rest i e
            (pins n ∙ not_true (kept redo again n) (λ t. true≢false (sym (split.1 t x.name h) ∙ new)))
            (and_of (nat_eq n x.name || holds kind x.name) (starts i x.at) (ap (λ (b : Bool). b || holds kind x.name) o ∙ h) s))
            (Full i (loop_count_in kind x.name))
            (λ q. full_in kind n i once.2 split.2 s o h q)
            (λ shown same. at_itself i (loop_count_in kind x.name) same
            (count_shown kind once.2 x.name (behind (nat_eq n x.name) (shows kind x.name) o shown))))
        | inr out ↦
            subst (Full i) (sym (unless (holds kind x.name) (loop_count_in kind x.name) (loop_count rest x.name) out))
            (full_of rest i once.3 split.3 s
            (behind (nat_eq n x.name || holds kind x.name) (has rest x.name) (ap (λ (b : Bool). b || holds kind x.name) o ∙ out) held)
            (sym (unless (is_in n kind i x) _ (look m rest i f x)
            (ap (λ (b : Bool). (b || holds kind x.name) && starts i x.at) o ∙ ap (λ (b : Bool). b && starts i x.at) out)) ∙ e))
      ]
    ]
      where
        here : (n : ℕ) (after : List Need) (kind : Kind) (rest : Graph) (i : List ℕ) → look m (add n after kind rest) i f x ≡ Some r
            → m.pinned n ≡ false → is_in n kind i x ≡ true
            → cond (m.reclosed n || gate m after n i f) (look_in m kind n i f x) (skip m n kind i x) ≡ Some r
        here n after kind rest i e free w =
            sym (unless (m.pinned n) (m.old x)
            (cond (m.reclosed n || gate m after n i f) (look_in m kind n i f x) (skip m n kind i x)) free)
            ∙ (sym (when (is_in n kind i x) _ (look m rest i f x) w) ∙ e)

        ran : (n : ℕ) (after : List Need) (kind : Kind) (i : List ℕ)
            → cond (m.reclosed n || gate m after n i f) (look_in m kind n i f x) (skip m n kind i x) ≡ Some r → (P : Type 0)
            → (look_in m kind n i f x ≡ Some r → P)
            → ((nat_eq n x.name || shows kind x.name) ≡ true → same_at i x.at ≡ true → P) → P
        ran n after kind i e P goes stays = elim (two (m.reclosed n || gate m after n i f)) [
          | inl t ↦ goes (sym (when (m.reclosed n || gate m after n i f) (look_in m kind n i f x) (skip m n kind i x) t) ∙ e)
          | inr o ↦
              let skipped = skip_in m n kind i x r
              (sym (unless (m.reclosed n || gate m after n i f) (look_in m kind n i f x) (skip m n kind i x) o) ∙ e) in
              stays skipped.0 skipped.1
        ]

-- THE LAW
pub new_stands : {Row Begun Decision Verdict : Type 0} (g : Graph) (m : Source Row Begun Decision Verdict) (redo again : ℕ → Bool)
    (f : Table Row) → Once g → IsKept g m redo again → Obeys m g f → (x : Address) (r : Row) → f x ≡ Some r
    → kept redo again x.name ≡ false → has g x.name ≡ true → loop_count g x.name ≡ length x.at
new_stands g m redo again f once keeps obeys x r there new held =
    let full : length x.at ≡ 0 + loop_count g x.name =
    full_of m redo again keeps.pinned f x r new g [] once keeps.split refl held
    (sym (obeys x (and_of (has g x.name) true held refl)) ∙ there) in
    omega (arith, full)
