-- No two instances are earlier than each other. So what is written last is one.
use Rattle.std.proofs.Common.{◌≡◌, ℕ, ◌<◌, Bool, true, false, ◌||◌, List, [], ◌∷◌, ◌++◌, Option, Some, ◌⊎◌, inl, inr, ⊎_elim, sym, ap, ◌∙◌, subst, refl, arith, nat_eq, true≢false}
use Rattle.wf_layers.specs.Definition.{Pace, Kind, Leaf, Scope, Choice, Foreach, Until, Branches, no_branch, branch, Graph, done, add, holds, has, has_any, IsBefore, IsDepth}
use Rattle.wf_layers.specs.Address.{Address, Table, starts, is_in, is_within, earlier_in, earlier_any, together, IsEarlier, SeenIn}
use Rattle.wf_layers.specs.Source.{Source}
use Rattle.wf_layers.specs.Seen.{OnceIn, OnceAny, Once}
use Rattle.wf_layers.specs.Meaning.{rank}
use Rattle.wf_layers.specs.Variables.{IsLastWritten}
use Rattle.wf_layers.proofs.Basics.{and_in, not_true, index_once, when, unless, falls_rank, any_within}
use Rattle.wf_layers.proofs.Meaning.{before_falls}

turn_once : (g : Graph) (i : List ℕ) (j k : ℕ) (y : Address) → is_within g (i ++ j ∷ []) y ≡ true → is_within g (i ++ k ∷ []) y ≡ true
    → j ≡ k
turn_once g i j k y h e =
    index_once i j k y.at (and_in (has g y.name) (starts (i ++ j ∷ []) y.at) h).1 (and_in (has g y.name) (starts (i ++ k ∷ []) y.at) e).1

module _ (low : ℕ → ℕ → Type 0) (depth : ℕ → ℕ) (falls : (a b : ℕ) → low a b → depth a < depth b) where
  -- two that are in one action have its rank
  same_rank : (g : Graph) (i : List ℕ) (y z : Address) → Once g → together low g i y z
      → (rank depth g i y ≡ rank depth g i z) × (has g y.name ≡ true)
  same_rank done i y z once e = absurd e
  same_rank (add n after kind rest) i y z once e =
      ⊎_elim
      (λ h. (
        when (is_in n kind i y) (depth n) (rank depth rest i y) h.1 ∙ sym (when (is_in n kind i z) (depth n) (rank depth rest i z) h.0),
        inside (and_in (nat_eq n y.name || holds kind y.name) (starts i y.at) h.1).0,
      ))
      (λ h. let r = same_rank rest i y z once.3 h.1 in (
        unless (is_in n kind i y) (depth n) (rank depth rest i y) (apart r.1)
            ∙ r.0 ∙ sym (unless (is_in n kind i z) (depth n) (rank depth rest i z) h.0),
        later r.1,
      ))
      e
    where
      inside : (nat_eq n y.name || holds kind y.name) ≡ true → (nat_eq n y.name || holds kind y.name || has rest y.name) ≡ true
      inside t = go (nat_eq n y.name) (holds kind y.name) t
        where
          go : (p q : Bool) → (p || q) ≡ true → (p || q || has rest y.name) ≡ true
          go true q t = refl
          go false true t = refl
          go false false t = absurd (true≢false (sym t))

      later : has rest y.name ≡ true → (nat_eq n y.name || holds kind y.name || has rest y.name) ≡ true
      later t = go (nat_eq n y.name) (holds kind y.name)
        where
          go : (p q : Bool) → (p || q || has rest y.name) ≡ true
          go true q = refl
          go false true = refl
          go false false = t

      apart : has rest y.name ≡ true → is_in n kind i y ≡ false
      apart t =
          not_true (is_in n kind i y)
          (λ own. true≢false (sym t ∙ once.1 y.name (and_in (nat_eq n y.name || holds kind y.name) (starts i y.at) own).0))

  abbrev Never : Graph → Type 0
  Never g = (i : List ℕ) (y z : Address) → together low g i y z → together low g i z y → ⊥

  either_way : (g : Graph) → Once g → Never g → (i : List ℕ) (y z : Address) → IsEarlier low g i y z → IsEarlier low g i z y → ⊥
  either_way g once never i y z (inl h) (inl e) =
      let a = falls_rank depth low falls g i y z h in let b = falls_rank depth low falls g i z y e in omega (arith, a, b)
  either_way g once never i y z (inl h) (inr e) =
      let a = falls_rank depth low falls g i y z h in let b = (same_rank g i z y once e).0 in omega (arith, a, b)
  either_way g once never i y z (inr h) (inl e) =
      let a = (same_rank g i y z once h).0 in let b = falls_rank depth low falls g i z y e in omega (arith, a, b)
  either_way g once never i y z (inr h) (inr e) = never i y z h e

  -- in a loop, whose pace is no matter
  in_turn : (pace : Pace) (g : Graph) (i : List ℕ) (y z : Address) → earlier_in low (Foreach pace g) i y z
      → earlier_in low (Until 0 g) i y z
  in_turn pace g i y z (inl h) = inl h
  in_turn pace g i y z (inr (j, k, is, lt, wy, wz)) = inr (j, k, lt, wy, wz)

  never_turns : (g : Graph) → Once g → Never g → (i : List ℕ) (y z : Address) → earlier_in low (Until 0 g) i y z
      → earlier_in low (Until 0 g) i z y → ⊥
  never_turns g once never i y z (inl h) (inl e) =
      let same = turn_once g i e.0 h.0 y e.2 h.1 in
      either_way g once never (i ++ h.0 ∷ []) y z h.3 (subst (λ j. IsEarlier low g (i ++ j ∷ []) z y) same e.3)
  never_turns g once never i y z (inl h) (inr e) =
      let a = turn_once g i h.0 e.1 y h.1 e.4 in let b = turn_once g i h.0 e.0 z h.2 e.3 in let lt = e.2 in omega (arith, a, b, lt)
  never_turns g once never i y z (inr h) (inl e) =
      let a = turn_once g i h.0 e.0 y h.3 e.2 in let b = turn_once g i h.1 e.0 z h.4 e.1 in let lt = h.2 in omega (arith, a, b, lt)
  never_turns g once never i y z (inr h) (inr e) =
      let a = turn_once g i h.0 e.1 y h.3 e.4 in let b = turn_once g i h.1 e.0 z h.4 e.3 in let lt = h.2 in let gt = e.2 in
      omega (arith, a, b, lt, gt)

  mutual
    never_in : (kind : Kind) → OnceIn kind → (i : List ℕ) (y z : Address) → earlier_in low kind i y z → earlier_in low kind i z y → ⊥
    never_in Leaf once i y z h e = h
    never_in (Scope g) once i y z h e = either_way g once (never_both g once) i y z h.2 e.2
    never_in (Choice bs) once i y z h e = never_any bs once i y z h e
    never_in (Foreach pace g) once i y z h e =
        never_turns g once (never_both g once) i y z (in_turn pace g i y z h) (in_turn pace g i z y e)
    never_in (Until most g) once i y z h e = never_turns g once (never_both g once) i y z h e

    never_any : (bs : Branches) → OnceAny bs → (i : List ℕ) (y z : Address) → earlier_any low bs i y z → earlier_any low bs i z y → ⊥
    never_any no_branch once i y z h e = h
    never_any (branch b rest) once i y z (inl h) (inl e) = either_way b once.1 (never_both b once.1) i y z h.2 e.2
    never_any (branch b rest) once i y z (inl h) (inr e) =
        true≢false (sym (and_in (has_any rest y.name) (starts i y.at) (any_within low rest i z y e).1).0
        ∙ once.0 y.name (and_in (has b y.name) (starts i y.at) h.0).0)
    never_any (branch b rest) once i y z (inr h) (inl e) =
        true≢false (sym (and_in (has_any rest y.name) (starts i y.at) (any_within low rest i y z h).0).0
        ∙ once.0 y.name (and_in (has b y.name) (starts i y.at) e.1).0)
    never_any (branch b rest) once i y z (inr h) (inr e) = never_any rest once.2 i y z h e

    never_both : (g : Graph) → Once g → Never g
    never_both done once i y z h e = h
    never_both (add n after kind rest) once i y z (inl h) (inl e) = never_in kind once.2 i y z h.2 e.2
    never_both (add n after kind rest) once i y z (inl h) (inr e) = true≢false (sym h.1 ∙ e.0)
    never_both (add n after kind rest) once i y z (inr h) (inl e) = true≢false (sym e.1 ∙ h.0)
    never_both (add n after kind rest) once i y z (inr h) (inr e) = never_both rest once.3 i y z h.1 e.1

pub seen_one_way : (d : Graph) (depth : ℕ → ℕ) → Once d → IsDepth d depth → (x y : Address) → SeenIn d x y → SeenIn d y x → ⊥
seen_one_way d depth once falls x y h e =
    let low = before_falls d depth falls in
    either_way (IsBefore d) depth low d once (never_both (IsBefore d) depth low d once) [] y x h.1 e.1

-- so what is written last is one
pub last_is_one : {Row Begun Decision Verdict Value : Type 0} (d : Graph) (depth : ℕ → ℕ) (m : Source Row Begun Decision Verdict)
    (writes : Address → Row → Option Value) → Once d → IsDepth d depth → (t : Table Row) (v u : Option Value)
    → IsLastWritten d m writes t v → IsLastWritten d m writes t u → v ≡ u
last_is_one d depth m writes once falls t v u (inl h) (inl e) = h.0 ∙ sym e.0
last_is_one d depth m writes once falls t v u (inl h) (inr e) = absurd (e.4 (sym e.3 ∙ h.1 e.0 e.1 e.2))
last_is_one d depth m writes once falls t v u (inr h) (inl e) = absurd (h.4 (sym h.3 ∙ e.1 h.0 h.1 h.2))
last_is_one d depth m writes once falls t v u (inr h) (inr e) =
    ⊎_elim same
    (λ before. ⊎_elim (λ is. same (sym is)) (λ after. absurd (seen_one_way d depth once falls h.0 e.0 before after))
    (e.5 h.0 h.1 h.2 (λ none. h.4 (sym h.3 ∙ none))))
    (h.5 e.0 e.1 e.2 (λ none. e.4 (sym e.3 ∙ none)))
  where
    same : e.0 ≡ h.0 → v ≡ u
    same is =
        let rows : Some e.1 ≡ Some h.1 = sym e.2 ∙ ap t is ∙ h.2 in let row : e.1 ≡ h.1 = cc in
        sym h.3 ∙ ap (λ r. writes h.0 r) (sym row) ∙ ap (λ y. writes y e.1) (sym is) ∙ e.3
