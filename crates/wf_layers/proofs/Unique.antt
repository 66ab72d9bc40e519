-- Rows that obey the rule in a part of the definition are the meaning's there.
use Rattle.std.proofs.Common.{◌≡◌, ℕ, zero, suc, ◌<◌, ◌≤◌, Bool, true, false, ◌&&◌, ◌||◌, cond, List, [], ◌∷◌, ◌++◌, Option, Some, None, ◌⊎◌, inl, inr, ⊎_elim, refl, sym, ap, ◌∙◌, subst, arith, nat_eq, eqb-true, true≢false, length}
use Rattle.wf_layers.specs.Definition.{Need, Pace, InTurn, AtMost, Kind, Leaf, Scope, Choice, Foreach, Until, Branches, no_branch, branch, Graph, done, add, is_one, less_one, holds, has, has_any, IsBefore, IsDepth}
use Rattle.wf_layers.specs.Address.{Address, address, Table, starts, is_own, is_in, is_within, is_among, earlier_in, earlier_any, together, IsEarlier, SeenIn}
use Rattle.wf_layers.specs.Source.{Source, gate, GateLocal, SoundIn, SoundAny, Sound}
use Rattle.wf_layers.specs.Meaning.{only, turns, sides, rounds, last, deepest, rank, skip, run, run_any, meaning}
use Rattle.wf_layers.specs.Rule.{look_in, look_any, look, Obeys}
use Rattle.wf_layers.specs.Part.{RegionIn, RegionAny, Region, IsPart}
use Rattle.wf_layers.proofs.Basics.{two, and_in, and_of, fork, apart, not_true, starts_outer, index_once, when, unless, only_same, cond_same, in_within, rest_within, other_within, own_in, held_in, inner_not_own, rank_below, falls_rank, none_inside, any_within, among_here, among_there, beside_not, longer, some_turn, sides_out, sides_at, rounds_same}
use Rattle.wf_layers.proofs.Layers.{out_layers, after_layers, body, other_turn, turns_out, turns_at, gate_same, leaf_same}
use Rattle.wf_layers.proofs.Meaning.{known, whole, Clear, Part, part_all, part_rest, rank_of, block_of, kind_clear, any_out, before_falls}

module _ {Row Begun Decision Verdict : Type 0} (s : Source Row Begun Decision Verdict) (depth : ℕ → ℕ) (low : ℕ → ℕ → Type 0)
    (falls : (a b : ℕ) → low a b → depth a < depth b) (Sees : Address → Address → Type 0) (P T : ℕ → Bool)
    (within_T : (n : ℕ) → P n ≡ true → T n ≡ true) (sees_P : (z y : Address) → T z.name ≡ true → Sees z y → P y.name ≡ true) where
  abbrev pub IntoT : Graph → List ℕ → Table Row → Table Row → Type 0
  IntoT g i k f =
      (z y : Address) → is_within g i z ≡ true → T z.name ≡ true → Sees z y
      → ((is_within g i y ≡ true) × IsEarlier low g i y z) ⊎ ((is_within g i y ≡ false) × (k y ≡ f y))

  abbrev KindT : Kind → ℕ → List ℕ → Table Row → Table Row → Type 0
  KindT kind n i k f =
      (z y : Address) → is_in n kind i z ≡ true → T z.name ≡ true → Sees z y → ((is_in n kind i y ≡ true) × earlier_in low kind i y z)
      ⊎ ((is_in n kind i y ≡ false) × (k y ≡ f y))

  abbrev pub RuleIn : Graph → List ℕ → Table Row → Type 0
  RuleIn g i f = (y : Address) → is_within g i y ≡ true → P y.name ≡ true → f y ≡ look s g i f y

  abbrev pub GraphUnique : Graph → ℕ → Type 0
  GraphUnique g l =
      (i : List ℕ) → length i ≡ l → (k f : Table Row) → IntoT g i k f → RuleIn g i f → Clear s depth low falls Sees g i k → (x : Address)
      → is_within g i x ≡ true → P x.name ≡ true → whole s depth low falls Sees g i k x ≡ f x

  abbrev KindUnique : Kind → ℕ → ℕ → Type 0
  KindUnique kind n l =
      (i : List ℕ) → length i ≡ l → (k f : Table Row) → KindT kind n i k f
      → ((y : Address) → is_in n kind i y ≡ true → P y.name ≡ true → f y ≡ look_in s kind n i f y)
      → ((y : Address) → is_in n kind i y ≡ true → k y ≡ None) → (x : Address) → is_in n kind i x ≡ true → P x.name ≡ true
      → run s depth kind n i k x ≡ f x

  own_agrees : (kind : Kind) (n : ℕ) (i : List ℕ) (k f : Table Row) → holds kind n ≡ false → T n ≡ true → KindT kind n i k f → (y : Address)
      → Sees (address n i) y → (is_in n kind i y ≡ false) × (k y ≡ f y)
  own_agrees kind n i k f nh tn sees y see =
      ⊎_elim (λ h. absurd (none_inside low kind n i y nh h.1)) (λ h. h) (sees (address n i) y (own_in n kind i) tn see)

  -- touched, where an address in it is of the region
  touched : (n : ℕ) (kind : Kind) (i : List ℕ) (x : Address) → ((q : ℕ) → holds kind q ≡ true → P q ≡ true → T n ≡ true)
      → is_in n kind i x ≡ true → P x.name ≡ true → T n ≡ true
  touched n kind i x up t px =
      ⊎_elim
      (λ e. within_T n (subst (λ q. P q ≡ true) (sym (eqb-true n x.name e)) px))
      (λ u. up x.name (sym (ap (λ b. b || holds kind x.name) u) ∙ (and_in (nat_eq n x.name || holds kind x.name) (starts i x.at) t).0) px)
      (two (nat_eq n x.name))

  -- for one action, where all of less depth are the same
  action_unique : (l : ℕ) (w : Graph) (i : List ℕ) → length i ≡ l → (k f : Table Row) (n : ℕ) (after : List Need) (kind : Kind)
      (rest : Graph) → Part s depth low falls Sees w i k (add n after kind rest) → GateLocal s Sees after n l → holds kind n ≡ false
      → ((q : ℕ) → holds kind q ≡ true → P q ≡ true → T n ≡ true) → KindUnique kind n l → IntoT w i k f
      → ((y : Address) → is_in n kind i y ≡ true → P y.name ≡ true → f y ≡ look s (add n after kind rest) i f y)
      → Clear s depth low falls Sees w i k
      → ((y : Address) → is_within w i y ≡ true → rank depth w i y < depth n → P y.name ≡ true → whole s depth low falls Sees w i k y ≡ f y)
      → (x : Address) → is_in n kind i x ≡ true → P x.name ≡ true → whole s depth low falls Sees w i k x ≡ f x
  action_unique l w i li k f n after kind rest p names nh up met into rule clear ih x t px =
      block_of s depth low falls Sees w i k f n after kind rest p x t
      ∙ ⊎_elim
      (λ pin. when (s.pinned n) (s.old x) _ pin ∙ sym (rule' x t px ∙ when (s.pinned n) (s.old x) _ pin))
      (λ free. unless (s.pinned n) (s.old x) _ free
      ∙ ap (λ b. cond (s.reclosed n || b) (run s depth kind n i kn x) (skip s n kind i x)) gates
      ∙ ⊎_elim
      (λ g. when (s.reclosed n || gate s after n i f) _ (skip s n kind i x) g
      ∙ met i li kn f kt (λ y u py. ruled free y u py ∙ when (s.reclosed n || gate s after n i f) _ (skip s n kind i y) g)
      (λ y u. kind_clear s depth low falls Sees w i k f n after kind rest p clear y u) x t px)
      (λ g. unless (s.reclosed n || gate s after n i f) _ _ g ∙ sym (ruled free x t px ∙ unless (s.reclosed n || gate s after n i f) _ _ g))
      (two (s.reclosed n || gate s after n i f)))
      (two (s.pinned n))
    where
      kn : Table Row
      kn = known s depth low falls Sees w i k (depth n)

      tn : T n ≡ true
      tn = touched n kind i x up t px

      rule' : (y : Address) → is_in n kind i y ≡ true → P y.name ≡ true
          → f y ≡ cond (s.pinned n) (s.old y) (cond (s.reclosed n || gate s after n i f) (look_in s kind n i f y) (skip s n kind i y))
      rule' y u py = rule y u py ∙ when (is_in n kind i y) _ (look s rest i f y) u

      ruled : s.pinned n ≡ false → (y : Address) → is_in n kind i y ≡ true → P y.name ≡ true
          → f y ≡ cond (s.reclosed n || gate s after n i f) (look_in s kind n i f y) (skip s n kind i y)
      ruled free y u py = rule' y u py ∙ unless (s.pinned n) (s.old y) _ free

      kt : KindT kind n i kn f
      kt z y inz tz see =
          ⊎_elim
          (λ h. ⊎_elim (λ l. inr (lower h.0 (falls_rank depth low falls w i y z l))) (λ j. inside (p.joined y z wz j)) h.1)
          (λ h. inr (
            not_true (is_in n kind i y) (λ q. true≢false (sym (p.within y (in_within n after kind rest i y q)) ∙ h.0)),
            out_layers s depth w i (depth n) k y h.0 ∙ h.1,
          ))
          (into z y (p.within z wz) tz see)
        where
          wz : is_within (add n after kind rest) i z ≡ true
          wz = in_within n after kind rest i z inz

          lower : is_within w i y ≡ true → rank depth w i y < rank depth w i z → (is_in n kind i y ≡ false) × (kn y ≡ f y)
          lower wy lt =
              let r = rank_of s depth low falls Sees w i k f n after kind rest p z inz in
              let below : rank depth w i y < depth n = subst (λ x. rank depth w i y < x) r lt in (
                not_true (is_in n kind i y) (λ q. let v = rank_of s depth low falls Sees w i k f n after kind rest p y q in
                    omega (arith, v, below)),
                after_layers s depth w i (depth n) k y below
                    ∙ sym (after_layers s depth w i (deepest depth w) k y (rank_below depth w i y wy)) ∙ ih y wy below (sees_P z y tz see),
              )

          inside : together low (add n after kind rest) i y z → ((is_in n kind i y ≡ true) × earlier_in low kind i y z)
              ⊎ ((is_in n kind i y ≡ false) × (kn y ≡ f y))
          inside j = ⊎_elim (λ h. inl (h.1, h.2)) (λ h. absurd (true≢false (sym inz ∙ h.0))) j

      gates : gate s after n i kn ≡ gate s after n i f
      gates = gate_same s Sees after n l names i li kn f (λ y e. (own_agrees kind n i kn f nh tn kt y e).1)

  leaf_unique : (n l : ℕ) → SoundIn s Sees Leaf n l → KindUnique Leaf n l
  leaf_unique n l so i li k f sees rule clear x t px =
      ap (λ r. only (is_own n i x) (Some r)) (leaf_same s Sees n l so i li k f (λ y e. (own_agrees Leaf n i k f refl tn sees y e).1))
      ∙ sym (rule x t px)
    where
      tn : T n ≡ true
      tn = touched n Leaf i x (λ q h. absurd (true≢false (sym h))) t px

  -- where the action itself is of the region, its close is that of f
  finish : (kind : Kind) (n : ℕ) (i : List ℕ) (f : Table Row) (r u : Option Row) (b : Bool) (v v' : Option Row) (x : Address)
      → f x ≡ cond (is_own n i x) u (only b v') → (is_own n i x ≡ true → r ≡ u) → (is_own n i x ≡ false → b ≡ true → v ≡ v')
      → cond (is_own n i x) r (only b v) ≡ f x
  finish kind n i f r u b v v' x e own inner =
      cond_same (is_own n i x) r u (only b v) (only b v') own (λ q. only_same b v v' (inner q)) ∙ sym e

  inner_is : (kind : Kind) (n : ℕ) (i : List ℕ) (r v : Option Row) (b : Bool) (y : Address) → holds kind n ≡ false
      → (holds kind y.name && starts i y.at) ≡ true → b ≡ true → cond (is_own n i y) r (only b v) ≡ v
  inner_is kind n i r v b y nh w e =
      unless (is_own n i y) r _ (inner_not_own n kind i y nh (and_in (holds kind y.name) (starts i y.at) w).0) ∙ when b v None e

  scope_unique : (g : Graph) (n : ℕ) → has g n ≡ false → (l : ℕ) → SoundIn s Sees (Scope g) n l
      → (P n ≡ true → (q : ℕ) → has g q ≡ true → P q ≡ true) → ((q : ℕ) → has g q ≡ true → P q ≡ true → T n ≡ true) → GraphUnique g l
      → KindUnique (Scope g) n l
  scope_unique g n nh l so down up met i li k f sees rule clear x t px =
      finish (Scope g) n i f _ _ (is_within g i x) _ _ x (rule x t px)
      (λ o. ap Some (closes (subst (λ q. P q ≡ true) (sym (eqb-true n x.name (and_in (nat_eq n x.name) _ o).0)) px)))
      (λ o w. inside x w px ∙ ruled x w px)
    where
      tn : T n ≡ true
      tn = touched n (Scope g) i x up t px

      not_in : (y : Address) → is_in n (Scope g) i y ≡ false → is_within g i y ≡ false
      not_in y e = not_true (is_within g i y) (λ w. true≢false (sym (held_in n (Scope g) i y w) ∙ e))

      ruled : RuleIn g i f
      ruled y w py = rule y (held_in n (Scope g) i y w) py ∙ inner_is (Scope g) n i _ _ (is_within g i y) y nh w w

      into : IntoT g i k f
      into z y w tz e = ⊎_elim (λ h. inl (h.1.0, h.1.2)) (λ h. inr (not_in y h.0, h.1)) (sees z y (held_in n (Scope g) i z w) tz e)

      inside : (y : Address) → is_within g i y ≡ true → P y.name ≡ true → whole s depth low falls Sees g i k y ≡ f y
      inside = met i li k f into ruled (λ y w. clear y (held_in n (Scope g) i y w))

      closes : P n ≡ true → s.close (address n i) (s.decide (address n i) k) 0 None (whole s depth low falls Sees g i k) ≡ s.close
          (address n i) (s.decide (address n i) f) 0 None f
      closes pn =
          ap (λ d. s.close (address n i) d 0 None (whole s depth low falls Sees g i k))
          (so.1 i li k f (λ y e. (own_agrees (Scope g) n i k f nh tn sees y e).1))
          ∙ so.0 i li (whole s depth low falls Sees g i k) f (s.decide (address n i) f) 0 None
          (λ y e. let h = own_agrees (Scope g) n i k f nh tn sees y e in out_layers s depth g i (deepest depth g) k y (not_in y h.0) ∙ h.1)
          (λ y w. inside y w (down pn y.name (and_in (has g y.name) (starts i y.at) w).0))

  -- LOOPS

  outer_within : (g : Graph) (i : List ℕ) (j : ℕ) (y : Address) → is_within g (i ++ j ∷ []) y ≡ true → is_within g i y ≡ true
  outer_within g i j y w =
      let h = and_in (has g y.name) (starts (i ++ j ∷ []) y.at) w in and_of (has g y.name) (starts i y.at) h.0 (starts_outer i j y.at h.1)

  out_turn : (g : Graph) (n : ℕ) (i : List ℕ) (b : Pace) (y : Address) → is_in n (Foreach b g) i y ≡ false → (m : ℕ)
      → is_within g (i ++ m ∷ []) y ≡ false
  out_turn g n i b y e m =
      not_true (is_within g (i ++ m ∷ []) y) (λ w. true≢false (sym (held_in n (Foreach b g) i y (outer_within g i m y w)) ∙ e))

  turn_of : (g : Graph) (i : List ℕ) (j m : ℕ) (z : Address) → is_within g (i ++ j ∷ []) z ≡ true → is_within g (i ++ m ∷ []) z ≡ true
      → j ≡ m
  turn_of g i j m z a b =
      index_once i j m z.at (and_in (has g z.name) (starts (i ++ j ∷ []) z.at) a).1 (and_in (has g z.name) (starts (i ++ m ∷ []) z.at) b).1

  -- iterations one after the other, up to c
  turn_agrees : (l : ℕ) (g : Graph) (n : ℕ) (i : List ℕ) → length i ≡ l → (k f : Table Row) (c : ℕ) → GraphUnique g (suc l)
      → KindT (Foreach InTurn g) n i k f → ((j : ℕ) → j < c → RuleIn g (i ++ j ∷ []) f)
      → ((y : Address) → is_in n (Foreach InTurn g) i y ≡ true → k y ≡ None) → (b j : ℕ) → j < b → j < c → (y : Address)
      → is_within g (i ++ j ∷ []) y ≡ true → P y.name ≡ true → body s depth g i j (turns j (body s depth g i) k) y ≡ f y
  turn_agrees l g n i li k f c met sees rule clear zero j lb lt = absurd (omega arith)
  turn_agrees l g n i li k f c met sees rule clear (suc b) j lb lt =
      met (i ++ j ∷ []) (longer i j l li) (turns j (body s depth g i) k) f
      (λ z y wz tz e. into z y wz tz e
      (λ m lm py w. turn_agrees l g n i li k f c met sees rule clear b m (omega arith) (omega arith) y w py))
      (rule j lt)
      (λ y w. turns_out s depth g i j k y (λ m l. other_turn s depth g i j m y w (λ e. omega arith))
      ∙ clear y (held_in n (Foreach InTurn g) i y (outer_within g i j y w)))
    where
      into : (z y : Address) → is_within g (i ++ j ∷ []) z ≡ true → T z.name ≡ true → Sees z y
          → ((m : ℕ) → m < j → P y.name ≡ true → is_within g (i ++ m ∷ []) y ≡ true
          → body s depth g i m (turns m (body s depth g i) k) y ≡ f y)
          → ((is_within g (i ++ j ∷ []) y ≡ true) × IsEarlier low g (i ++ j ∷ []) y z)
          ⊎ ((is_within g (i ++ j ∷ []) y ≡ false) × (turns j (body s depth g i) k y ≡ f y))
      into z y wz tz e ih =
          ⊎_elim
          (λ h. ⊎_elim
          (λ q. let same = turn_of g i q.0 j z q.2 wz in
          inl (subst (λ m. is_within g (i ++ m ∷ []) y ≡ true) same q.1, subst (λ m. IsEarlier low g (i ++ m ∷ []) y z) same q.3))
          (λ q. let same = turn_of g i q.1 j z q.5 wz in
          let less : q.0 < j = subst (λ m. q.0 < m) same q.3 in
          inr (
            other_turn s depth g i q.0 j y q.4 (λ x. omega arith),
            turns_at s depth g i j k y q.0 less q.4
                ∙ ih q.0 less (sees_P z y tz e) q.4,
          ))
          h.1)
          (λ h. inr (out_turn g n i InTurn y h.0 j, turns_out s depth g i j k y (λ m l. out_turn g n i InTurn y h.0 m) ∙ h.1))
          (sees z y (held_in n (Foreach InTurn g) i z (outer_within g i j z wz)) tz e)

  side_agrees : (l : ℕ) (g : Graph) (most n : ℕ) (i : List ℕ) → length i ≡ l → (k f : Table Row) (c : ℕ) → GraphUnique g (suc l)
      → KindT (Foreach (AtMost most) g) n i k f → ((j : ℕ) → j < c → RuleIn g (i ++ j ∷ []) f)
      → ((y : Address) → is_in n (Foreach (AtMost most) g) i y ≡ true → k y ≡ None) → (j : ℕ) → j < c → (y : Address)
      → is_within g (i ++ j ∷ []) y ≡ true → P y.name ≡ true → body s depth g i j k y ≡ f y
  side_agrees l g most n i li k f c met sees rule clear j lt =
      met (i ++ j ∷ []) (longer i j l li) k f into (rule j lt)
      (λ y w. clear y (held_in n (Foreach (AtMost most) g) i y (outer_within g i j y w)))
    where
      into : IntoT g (i ++ j ∷ []) k f
      into z y wz tz e =
          ⊎_elim
          (λ h. ⊎_elim
          (λ q. let same = turn_of g i q.0 j z q.2 wz in
          inl (subst (λ m. is_within g (i ++ m ∷ []) y ≡ true) same q.1, subst (λ m. IsEarlier low g (i ++ m ∷ []) y z) same q.3))
          (λ q. absurd (beside_not q.2))
          h.1)
          (λ h. inr (out_turn g n i (AtMost most) y h.0 j, h.1))
          (sees z y (held_in n (Foreach (AtMost most) g) i z (outer_within g i j z wz)) tz e)

  -- rows of c iterations, where each is f's, and of none other
  loop_agrees : (g : Graph) (i : List ℕ) (f : Table Row) (c : ℕ) (k k' : Table Row)
      → ((j : ℕ) (y : Address) → j < c → is_within g (i ++ j ∷ []) y ≡ true → P y.name ≡ true → k' y ≡ f y)
      → ((y : Address) → ((j : ℕ) → j < c → is_within g (i ++ j ∷ []) y ≡ false) → k' y ≡ k y)
      → ((y : Address) → is_within g i y ≡ true → k y ≡ None)
      → ((y : Address) → is_within g i y ≡ true → P y.name ≡ true → f y ≡ sides c i (λ j t. look s g (i ++ j ∷ []) f) (λ y. None) y)
      → (y : Address) → is_within g i y ≡ true → P y.name ≡ true → k' y ≡ f y
  loop_agrees g i f c k k' in_it out clear rule y w py =
      ⊎_elim
      (λ h. in_it h.0 y h.1 (and_of (has g y.name) (starts (i ++ h.0 ∷ []) y.at) (and_in (has g y.name) (starts i y.at) w).0 h.2) py)
      (λ h. out y (λ j lt. not_true (is_within g (i ++ j ∷ []) y)
      (λ t. true≢false (sym (and_in (has g y.name) (starts (i ++ j ∷ []) y.at) t).1 ∙ h j lt))) ∙ clear y w
      ∙ sym (rule y w py ∙ sides_out c i (λ j t. look s g (i ++ j ∷ []) f) (λ y. None) y h))
      (some_turn c i y.at)

  module _ (g : Graph) (n : ℕ) (i : List ℕ) (k f : Table Row) (t : Pace) (r : Option Row) (c : ℕ) (nh : has g n ≡ false)
      (rule : (y : Address) → is_in n (Foreach t g) i y ≡ true → P y.name ≡ true
      → f y ≡ cond (is_own n i y) r (only (is_within g i y) (sides c i (λ j t. look s g (i ++ j ∷ []) f) (λ y. None) y))) where
    loop_rule : (y : Address) → is_within g i y ≡ true → P y.name ≡ true → f y ≡ sides c i (λ j t. look s g (i ++ j ∷ []) f) (λ y. None) y
    loop_rule y w py = rule y (held_in n (Foreach t g) i y w) py ∙ inner_is (Foreach t g) n i _ _ (is_within g i y) y nh w w

    turn_rule : (j : ℕ) → j < c → RuleIn g (i ++ j ∷ []) f
    turn_rule j lt y w py =
        loop_rule y (outer_within g i j y w) py ∙ sides_at c i (λ j t. look s g (i ++ j ∷ []) f) (λ y. None) y j lt
        (and_in (has g y.name) (starts (i ++ j ∷ []) y.at) w).1

  foreach_unique : (g : Graph) (n : ℕ) → has g n ≡ false → (l : ℕ) → SoundIn s Sees (Foreach InTurn g) n l
      → (P n ≡ true → (q : ℕ) → has g q ≡ true → P q ≡ true) → ((q : ℕ) → has g q ≡ true → P q ≡ true → T n ≡ true) → GraphUnique g (suc l)
      → KindUnique (Foreach InTurn g) n l
  foreach_unique g n nh l so down up met i li k f sees rule clear x t px =
      ap (λ e. cond (is_own n i x) (Some (s.close (address n i) e 0 None (turns (s.items e) (body s depth g i) k)))
      (only (is_within g i x) (turns (s.items e) (body s depth g i) k x))) decides
      ∙ finish (Foreach InTurn g) n i f _ _ (is_within g i x) _ _ x (rule x t px)
      (λ o. ap Some (closes (subst (λ q. P q ≡ true) (sym (eqb-true n x.name (and_in (nat_eq n x.name) _ o).0)) px)))
      (λ o w. inside x w px ∙ loop_rule g n i k f InTurn _ c nh rule x w px)
    where
      d : Decision
      d = s.decide (address n i) f

      c : ℕ
      c = s.items d

      tn : T n ≡ true
      tn = touched n (Foreach InTurn g) i x up t px

      decides : s.decide (address n i) k ≡ d
      decides = so.1 i li k f (λ y e. (own_agrees (Foreach InTurn g) n i k f nh tn sees y e).1)

      inside : (y : Address) → is_within g i y ≡ true → P y.name ≡ true → turns c (body s depth g i) k y ≡ f y
      inside = loop_agrees g i f c k (turns c (body s depth g i) k)
          (λ j y lt w py. turns_at s depth g i c k y j lt w
          ∙ turn_agrees l g n i li k f c met sees (turn_rule g n i k f InTurn _ c nh rule) clear (suc j) j (omega arith) lt y w py)
          (λ y h. turns_out s depth g i c k y h)
          (λ y w. clear y (held_in n (Foreach InTurn g) i y w))
          (loop_rule g n i k f InTurn _ c nh rule)

      closes : P n ≡ true → s.close (address n i) d 0 None (turns c (body s depth g i) k) ≡ s.close (address n i) d 0 None f
      closes pn = so.0 i li (turns c (body s depth g i) k) f d 0 None
          (λ y e. let h = own_agrees (Foreach InTurn g) n i k f nh tn sees y e in
          turns_out s depth g i c k y (λ j lt. out_turn g n i InTurn y h.0 j) ∙ h.1)
          (λ y w. inside y w (down pn y.name (and_in (has g y.name) (starts i y.at) w).0))

  beside_unique : (g : Graph) (most n : ℕ) → has g n ≡ false → (l : ℕ) → SoundIn s Sees (Foreach (AtMost most) g) n l
      → (P n ≡ true → (q : ℕ) → has g q ≡ true → P q ≡ true) → ((q : ℕ) → has g q ≡ true → P q ≡ true → T n ≡ true) → GraphUnique g (suc l)
      → KindUnique (Foreach (AtMost most) g) n l
  beside_unique g most n nh l so down up met i li k f sees rule clear x t px =
      ap (λ e. cond (is_own n i x) (Some (s.close (address n i) e 0 None (sides (s.items e) i (body s depth g i) k)))
      (only (is_within g i x) (sides (s.items e) i (body s depth g i) k x))) decides
      ∙ finish (Foreach (AtMost most) g) n i f _ _ (is_within g i x) _ _ x (rule x t px)
      (λ o. ap Some (closes (subst (λ q. P q ≡ true) (sym (eqb-true n x.name (and_in (nat_eq n x.name) _ o).0)) px)))
      (λ o w. inside x w px ∙ loop_rule g n i k f (AtMost most) _ c nh rule x w px)
    where
      d : Decision
      d = s.decide (address n i) f

      c : ℕ
      c = s.items d

      tn : T n ≡ true
      tn = touched n (Foreach (AtMost most) g) i x up t px

      decides : s.decide (address n i) k ≡ d
      decides = so.1 i li k f (λ y e. (own_agrees (Foreach (AtMost most) g) n i k f nh tn sees y e).1)

      side_out : (m : ℕ) (y : Address) → ((j : ℕ) → j < m → is_within g (i ++ j ∷ []) y ≡ false) → sides m i (body s depth g i) k y ≡ k y
      side_out zero y h = refl
      side_out (suc m) y h =
          ⊎_elim
          (λ e. when (starts (i ++ m ∷ []) y.at) (body s depth g i m k y) _ e ∙ out_layers s depth g (i ++ m ∷ []) (deepest depth g) k y
          (h m (omega arith)))
          (λ e. unless (starts (i ++ m ∷ []) y.at) (body s depth g i m k y) _ e ∙ side_out m y (λ j lt. h j (omega arith)))
          (two (starts (i ++ m ∷ []) y.at))

      inside : (y : Address) → is_within g i y ≡ true → P y.name ≡ true → sides c i (body s depth g i) k y ≡ f y
      inside = loop_agrees g i f c k (sides c i (body s depth g i) k)
          (λ j y lt w py. sides_at c i (body s depth g i) k y j lt (and_in (has g y.name) (starts (i ++ j ∷ []) y.at) w).1
          ∙ side_agrees l g most n i li k f c met sees (turn_rule g n i k f (AtMost most) _ c nh rule) clear j lt y w py)
          (λ y h. side_out c y h)
          (λ y w. clear y (held_in n (Foreach (AtMost most) g) i y w))
          (loop_rule g n i k f (AtMost most) _ c nh rule)

      closes : P n ≡ true → s.close (address n i) d 0 None (sides c i (body s depth g i) k) ≡ s.close (address n i) d 0 None f
      closes pn = so.0 i li (sides c i (body s depth g i) k) f d 0 None
          (λ y e. let h = own_agrees (Foreach (AtMost most) g) n i k f nh tn sees y e in
          side_out c y (λ j lt. out_turn g n i (AtMost most) y h.0 j) ∙ h.1)
          (λ y w. inside y w (down pn y.name (and_in (has g y.name) (starts i y.at) w).0))

  until_unique : (g : Graph) (most n : ℕ) → has g n ≡ false → (l : ℕ) → SoundIn s Sees (Until most g) n l
      → (P n ≡ true → (q : ℕ) → has g q ≡ true → P q ≡ true) → ((q : ℕ) → has g q ≡ true → P q ≡ true → T n ≡ true)
      → (T n ≡ true → P n ≡ true) → GraphUnique g (suc l) → KindUnique (Until most g) n l
  until_unique g most n nh l so down up both met i li k f sees rule clear x t px =
      finish (Until most g) n i f _ _ (is_within g i x) _ _ x (rule x t px) (λ o. ap Some closes)
      (λ o w. ap (λ e. turns e (body s depth g i) k x) counts ∙ inside x w px ∙ loop_rule g n i k f InTurn _ c nh rule x w px)
    where
      tested : ℕ → Verdict
      tested j = s.test (address n i) j f

      c : ℕ
      c = rounds most 0 (λ j. s.ends (s.test (address n i) j f))

      tn : T n ≡ true
      tn = touched n (Until most g) i x up t px

      all : (y : Address) → is_within g i y ≡ true → P y.name ≡ true
      all y w = down (both tn) y.name (and_in (has g y.name) (starts i y.at) w).0

      turned : KindT (Foreach InTurn g) n i k f
      turned z y inz tz e =
          ⊎_elim (λ h. inl (h.0, ⊎_elim (λ q. inl q) (λ q. inr (q.0, q.1, refl, q.2, q.3, q.4)) h.1)) (λ h. inr h) (sees z y inz tz e)

      seen : (m : ℕ) (y : Address) → Sees (address n i) y → turns m (body s depth g i) k y ≡ f y
      seen m y e =
          let h = own_agrees (Until most g) n i k f nh tn sees y e in turns_out s depth g i m k y (λ j lt. out_turn g n i InTurn y h.0 j)
          ∙ h.1

      agree : (j : ℕ) → j < c → (y : Address) → is_within g (i ++ j ∷ []) y ≡ true
          → body s depth g i j (turns j (body s depth g i) k) y ≡ f y
      agree j lt y w =
          turn_agrees l g n i li k f c met turned (turn_rule g n i k f InTurn _ c nh rule) clear (suc j) j (omega arith) lt y w
          (all y (outer_within g i j y w))

      -- each test that is made is that of f
      tests : (j : ℕ) → j < c → s.test (address n i) j (turns (suc j) (body s depth g i) k) ≡ s.test (address n i) j f
      tests j lt =
          so.2 i li (turns (suc j) (body s depth g i) k) f j (seen (suc j))
          (λ q l y w. turns_at s depth g i (suc j) k y q l w ∙ agree q (omega (arith, l, lt)) y w)

      counts : rounds most 0 (λ j. s.ends (s.test (address n i) j (turns (suc j) (body s depth g i) k))) ≡ c
      counts =
          sym (rounds_same most 0 (λ j. s.ends (s.test (address n i) j f))
          (λ j. s.ends (s.test (address n i) j (turns (suc j) (body s depth g i) k))) (λ h le lt. sym (ap s.ends (tests h lt))))

      last_same : (m : ℕ) → m ≤ c → last m (λ j. s.test (address n i) j (turns (suc j) (body s depth g i) k)) ≡ last m
          (λ j. s.test (address n i) j f)
      last_same zero le = refl
      last_same (suc j) le = ap Some (tests j (omega arith))

      inside : (y : Address) → is_within g i y ≡ true → P y.name ≡ true → turns c (body s depth g i) k y ≡ f y
      inside = loop_agrees g i f c k (turns c (body s depth g i) k)
          (λ j y lt w py. turns_at s depth g i c k y j lt w ∙ agree j lt y w)
          (λ y h. turns_out s depth g i c k y h)
          (λ y w. clear y (held_in n (Foreach InTurn g) i y w))
          (loop_rule g n i k f InTurn _ c nh rule)

      closes : s.close (address n i) (s.decide (address n i) k)
          (rounds most 0 (λ j. s.ends (s.test (address n i) j (turns (suc j) (body s depth g i) k))))
          (last (rounds most 0 (λ j. s.ends (s.test (address n i) j (turns (suc j) (body s depth g i) k))))
          (λ j. s.test (address n i) j (turns (suc j) (body s depth g i) k)))
          (turns (rounds most 0 (λ j. s.ends (s.test (address n i) j (turns (suc j) (body s depth g i) k)))) (body s depth g i) k) ≡ s.close
          (address n i) (s.decide (address n i) f) c (last c (λ j. s.test (address n i) j f)) f
      closes =
          ap (λ m. s.close (address n i) (s.decide (address n i) k) m
          (last m (λ j. s.test (address n i) j (turns (suc j) (body s depth g i) k))) (turns m (body s depth g i) k)) counts
          ∙ ap (λ d. s.close (address n i) d c (last c (λ j. s.test (address n i) j (turns (suc j) (body s depth g i) k)))
          (turns c (body s depth g i) k)) (so.1 i li k f (λ y e. (own_agrees (Until most g) n i k f nh tn sees y e).1))
          ∙ ap (λ v. s.close (address n i) (s.decide (address n i) f) c v (turns c (body s depth g i) k)) (last_same c (omega arith))
          ∙ so.0 i li (turns c (body s depth g i) k) f (s.decide (address n i) f) c (last c (λ j. s.test (address n i) j f)) (seen c)
          (λ y w. inside y w (all y w))

  -- BRANCHES

  abbrev AllUnique : Branches → ℕ → Type 0
  AllUnique no_branch l = Unit {0}
  AllUnique (branch b rest) l = GraphUnique b l × AllUnique rest l

  abbrev IntoAny : Branches → List ℕ → Table Row → Table Row → Type 0
  IntoAny bs i k f =
      (z y : Address) → is_among bs i z ≡ true → T z.name ≡ true → Sees z y
      → earlier_any low bs i y z ⊎ ((is_among bs i y ≡ false) × (k y ≡ f y))

  any_agrees : (bs : Branches) (l : ℕ) → SoundAny s Sees bs l → AllUnique bs l → (c : ℕ) (i : List ℕ) → length i ≡ l → (k f : Table Row)
      → IntoAny bs i k f → ((y : Address) → is_among bs i y ≡ true → P y.name ≡ true → f y ≡ look_any s bs c i f y)
      → ((y : Address) → is_among bs i y ≡ true → k y ≡ None) → (x : Address) → is_among bs i x ≡ true → P x.name ≡ true
      → run_any s depth bs c i k x ≡ f x
  any_agrees no_branch l so met c i li k f sees rule clear x w px = absurd (true≢false (sym w))
  any_agrees (branch b rest) l so met c i li k f sees rule clear x w px =
      ⊎_elim
      (λ u. when (is_within b i x) _ _ u ∙ ⊎_elim
      (λ t. when (is_one c) _ _ t
      ∙ met.0 i li k f into (λ y v py. rule y (among_here b rest i y v) py ∙ when (is_within b i y) _ _ v ∙ when (is_one c) _ _ t)
      (λ y v. clear y (among_here b rest i y v)) x u px)
      (λ t. unless (is_one c) _ _ t ∙ sym (rule x w px ∙ when (is_within b i x) _ _ u ∙ unless (is_one c) _ _ t))
      (two (is_one c)))
      (λ u. unless (is_within b i x) _ _ u ∙ any_agrees rest l so.2 met.1 (less_one c) i li k f into_rest
      (λ y v py. rule y (among_there b rest i y v) py ∙ unless (is_within b i y) _ _ (not_here y v))
      (λ y v. clear y (among_there b rest i y v)) x (fork (has b x.name) (has_any rest x.name) (starts i x.at) w u) px)
      (two (is_within b i x))
    where
      not_here : (y : Address) → is_among rest i y ≡ true → is_within b i y ≡ false
      not_here y v = apart (has b y.name) (has_any rest y.name) (starts i y.at) (so.0 y.name) v

      into : IntoT b i k f
      into z y v tz e =
          ⊎_elim
          (λ h. ⊎_elim (λ q. inl (q.0, q.2)) (λ q. absurd (true≢false (sym v ∙ not_here z (any_within low rest i y z q).1))) h)
          (λ h. inr (not_true (is_within b i y) (λ q. true≢false (sym (among_here b rest i y q) ∙ h.0)), h.1))
          (sees z y (among_here b rest i z v) tz e)

      into_rest : IntoAny rest i k f
      into_rest z y v tz e =
          ⊎_elim
          (λ h. ⊎_elim (λ q. absurd (true≢false (sym q.1 ∙ not_here z v))) (λ q. inl q) h)
          (λ h. inr (not_true (is_among rest i y) (λ q. true≢false (sym (among_there b rest i y q) ∙ h.0)), h.1))
          (sees z y (among_there b rest i z v) tz e)

  choice_unique : (bs : Branches) (n : ℕ) → has_any bs n ≡ false → (l : ℕ) → SoundIn s Sees (Choice bs) n l
      → (P n ≡ true → (q : ℕ) → has_any bs q ≡ true → P q ≡ true) → ((q : ℕ) → has_any bs q ≡ true → P q ≡ true → T n ≡ true)
      → AllUnique bs l → KindUnique (Choice bs) n l
  choice_unique bs n nh l so down up met i li k f sees rule clear x t px =
      ap (λ e. cond (is_own n i x) (Some (s.close (address n i) e 0 None (run_any s depth bs (s.taken e) i k)))
      (only (is_among bs i x) (run_any s depth bs (s.taken e) i k x))) decides
      ∙ finish (Choice bs) n i f _ _ (is_among bs i x) _ _ x (rule x t px)
      (λ o. ap Some (closes (subst (λ q. P q ≡ true) (sym (eqb-true n x.name (and_in (nat_eq n x.name) _ o).0)) px)))
      (λ o w. inside x w px ∙ ruled x w px)
    where
      d : Decision
      d = s.decide (address n i) f

      tn : T n ≡ true
      tn = touched n (Choice bs) i x up t px

      decides : s.decide (address n i) k ≡ d
      decides = so.1 i li k f (λ y e. (own_agrees (Choice bs) n i k f nh tn sees y e).1)

      not_in : (y : Address) → is_in n (Choice bs) i y ≡ false → is_among bs i y ≡ false
      not_in y e = not_true (is_among bs i y) (λ w. true≢false (sym (held_in n (Choice bs) i y w) ∙ e))

      ruled : (y : Address) → is_among bs i y ≡ true → P y.name ≡ true → f y ≡ look_any s bs (s.taken d) i f y
      ruled y w py = rule y (held_in n (Choice bs) i y w) py ∙ inner_is (Choice bs) n i _ _ (is_among bs i y) y nh w w

      into : IntoAny bs i k f
      into z y w tz e = ⊎_elim (λ h. inl h.1) (λ h. inr (not_in y h.0, h.1)) (sees z y (held_in n (Choice bs) i z w) tz e)

      inside : (y : Address) → is_among bs i y ≡ true → P y.name ≡ true → run_any s depth bs (s.taken d) i k y ≡ f y
      inside = any_agrees bs l so.2 met (s.taken d) i li k f into ruled (λ y w. clear y (held_in n (Choice bs) i y w))

      closes : P n ≡ true → s.close (address n i) d 0 None (run_any s depth bs (s.taken d) i k) ≡ s.close (address n i) d 0 None f
      closes pn = so.0 i li (run_any s depth bs (s.taken d) i k) f d 0 None
          (λ y e. let h = own_agrees (Choice bs) n i k f nh tn sees y e in
          any_out s depth low falls Sees bs (s.taken d) i k y (not_in y h.0) ∙ h.1)
          (λ y w. inside y w (down pn y.name (and_in (has_any bs y.name) (starts i y.at) w).0))

  -- BY RECURSION ON THE DEFINITION, and on the depth

  abbrev StepUnique : Graph → Graph → ℕ → Type 0
  StepUnique g w l =
      (i : List ℕ) → length i ≡ l → (k f : Table Row) → Part s depth low falls Sees w i k g → IntoT w i k f → RuleIn g i f
      → Clear s depth low falls Sees w i k → (x : Address) → is_within g i x ≡ true
      → ((y : Address) → is_within w i y ≡ true → rank depth w i y < rank depth w i x → P y.name ≡ true
      → whole s depth low falls Sees w i k y ≡ f y) → P x.name ≡ true → whole s depth low falls Sees w i k x ≡ f x

  graph_of : (g : Graph) (l : ℕ) → StepUnique g g l → GraphUnique g l
  graph_of g l step i li k f into rule clear x w px = below (suc (rank depth g i x)) x w (omega arith) px
    where
      below : (b : ℕ) (x : Address) → is_within g i x ≡ true → rank depth g i x < b → P x.name ≡ true
          → whole s depth low falls Sees g i k x ≡ f x
      below zero x w lt px = absurd (omega arith)
      below (suc b) x w lt px =
          step i li k f (part_all s depth low falls Sees g i k) into rule clear x w (λ y wy ly py. below b y wy (omega arith) py) px

  mutual
    kind_unique : (kind : Kind) (n l : ℕ) → holds kind n ≡ false → SoundIn s Sees kind n l → RegionIn P T kind n
        → (P n ≡ true → (q : ℕ) → holds kind q ≡ true → P q ≡ true) → ((q : ℕ) → holds kind q ≡ true → P q ≡ true → T n ≡ true)
        → KindUnique kind n l
    kind_unique Leaf n l nh so re down up = leaf_unique n l so
    kind_unique (Scope g) n l nh so re down up =
        scope_unique g n nh l so down up (graph_of g l (λ i li k f. step_walk g g l i li k f so.2 re))
    kind_unique (Choice bs) n l nh so re down up = choice_unique bs n nh l so down up (all_agree bs l so.2 re)
    kind_unique (Foreach InTurn g) n l nh so re down up =
        foreach_unique g n nh l so down up (graph_of g (suc l) (λ i li k f. step_walk g g (suc l) i li k f so.2 re.1))
    kind_unique (Foreach (AtMost most) g) n l nh so re down up =
        beside_unique g most n nh l so down up (graph_of g (suc l) (λ i li k f. step_walk g g (suc l) i li k f so.2 re.1))
    kind_unique (Until most g) n l nh so re down up =
        until_unique g most n nh l so down up re.0 (graph_of g (suc l) (λ i li k f. step_walk g g (suc l) i li k f so.3 re.1))

    all_agree : (bs : Branches) (l : ℕ) → SoundAny s Sees bs l → RegionAny P T bs → AllUnique bs l
    all_agree no_branch l so re = tt
    all_agree (branch b rest) l so re = (graph_of b l (λ i li k f. step_walk b b l i li k f so.1 re.0), all_agree rest l so.2 re.1)

    step_walk : (g w : Graph) (l : ℕ) (i : List ℕ) → length i ≡ l → (k f : Table Row) → Sound s Sees g l → Region P T g
        → Part s depth low falls Sees w i k g → IntoT w i k f → RuleIn g i f → Clear s depth low falls Sees w i k → (x : Address)
        → is_within g i x ≡ true
        → ((y : Address) → is_within w i y ≡ true → rank depth w i y < rank depth w i x → P y.name ≡ true
        → whole s depth low falls Sees w i k y ≡ f y) → P x.name ≡ true → whole s depth low falls Sees w i k x ≡ f x
    step_walk done w l i li k f so re p into rule clear x m ih px = absurd (true≢false (sym m))
    step_walk (add n after kind rest) w l i li k f so re p into rule clear x m ih px =
        ⊎_elim
        (λ t. action_unique l w i li k f n after kind rest p so.0 so.1 re.1 (kind_unique kind n l so.1 so.3 re.2 re.0 re.1) into
        (λ y u py. rule y (in_within n after kind rest i y u) py) clear
        (λ y wy lt py. ih y wy
        (subst (λ r. rank depth w i y < r) (sym (rank_of s depth low falls Sees w i k f n after kind rest p x t)) lt) py) x t px)
        (λ u. step_walk rest w l i li k f so.4 re.3 (part_rest s depth low falls Sees w i k n after kind rest so.2 p) into
        (λ y v py. rule y (rest_within n after kind rest i y v) py
        ∙ unless (is_in n kind i y) _ (look s rest i f y)
        (apart (nat_eq n y.name || holds kind y.name) (has rest y.name) (starts i y.at) (so.2 y.name) v))
        clear x (other_within n after kind rest i x m u) ih px)
        (two (is_in n kind i x))

  -- Rows that obey the rule in the region are the meaning's there
  pub rows_unique : (g : Graph) → Sound s Sees g 0 → Region P T g
      → ((y z : Address) → Sees z y → (is_within g [] y ≡ true) × IsEarlier low g [] y z) → (f : Table Row) → RuleIn g [] f → (x : Address)
      → is_within g [] x ≡ true → P x.name ≡ true → meaning s depth g x ≡ f x
  rows_unique g so re sees f rule x w px =
      graph_of g 0 (λ i li k f. step_walk g g 0 i li k f so re) [] refl (λ y. None) f (λ z y wz tz e. inl (sees y z e)) rule
      (λ y m. refl) x w px

mutual
  all_region_in : (kind : Kind) (n : ℕ) → RegionIn (λ n. true) (λ n. true) kind n
  all_region_in Leaf n = tt
  all_region_in (Scope h) n = all_region h
  all_region_in (Choice bs) n = all_region_any bs
  all_region_in (Foreach t h) n = (λ e. refl, all_region h)
  all_region_in (Until most h) n = (λ e. refl, all_region h)

  all_region_any : (bs : Branches) → RegionAny (λ n. true) (λ n. true) bs
  all_region_any no_branch = tt
  all_region_any (branch b rest) = (all_region b, all_region_any rest)

  all_region : (h : Graph) → Region (λ n. true) (λ n. true) h
  all_region done = tt
  all_region (add n after kind rest) = (λ e q h. refl, λ q h e. refl, all_region_in kind n, all_region rest)

-- All rows that obey the rule are the meaning's
pub all_unique : {Row Begun Decision Verdict : Type 0} (s : Source Row Begun Decision Verdict) (depth : ℕ → ℕ) (g : Graph) → IsDepth g depth
    → Sound s (SeenIn g) g 0 → (f : Table Row) → Obeys s g f → (x : Address) → is_within g [] x ≡ true → meaning s depth g x ≡ f x
all_unique s depth g falls so f sol x w =
    rows_unique s depth (IsBefore g) (before_falls g depth falls) (SeenIn g) (λ n. true) (λ n. true) (λ n e. refl) (λ z y t e. refl) g so
    (all_region g) (λ y z e. e) f (λ y v p. sol y v) x w refl

-- rows that obey the rule in a part of the definition are the meaning's there
pub part_unique : {Row Begun Decision Verdict : Type 0} (s : Source Row Begun Decision Verdict) (depth : ℕ → ℕ) (g : Graph)
    → IsDepth g depth → Sound s (SeenIn g) g 0 → (part near : ℕ → Bool) → IsPart g part near → (f : Table Row)
    → ((y : Address) → is_within g [] y ≡ true → part y.name ≡ true → f y ≡ look s g [] f y) → (x : Address) → is_within g [] x ≡ true
    → part x.name ≡ true → meaning s depth g x ≡ f x
part_unique s depth g falls so part near p f rule =
    rows_unique s depth (IsBefore g) (before_falls g depth falls) (SeenIn g) part near p.within p.sees g so p.tree (λ y z e. e) f rule
