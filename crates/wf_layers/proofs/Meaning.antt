-- The layered meaning obeys the local rule.
use Rattle.std.proofs.Common.{◌≡◌, ℕ, zero, suc, ◌<◌, ◌≤◌, true, false, ◌&&◌, ◌||◌, cond, List, [], ◌∷◌, ◌++◌, Option, Some, None, ◌⊎◌, inl, inr, ⊎_elim, refl, sym, ap, ◌∙◌, subst, arith, nat_eq, true≢false, length}
use Rattle.wf_layers.specs.Definition.{Need, Pace, InTurn, AtMost, Kind, Leaf, Scope, Choice, Foreach, Until, Branches, no_branch, branch, Graph, done, add, is_one, less_one, holds, has, has_any, IsBefore, next, more, IsDepth}
use Rattle.wf_layers.specs.Address.{Address, address, Table, starts, is_own, is_in, is_within, is_among, earlier_in, earlier_any, together, IsEarlier, SeenIn}
use Rattle.wf_layers.specs.Source.{Source, gate, GateLocal, SoundIn, SoundAny, Sound}
use Rattle.wf_layers.specs.Meaning.{only, layers, turns, sides, rounds, last, deepest, rank, skip, run, run_any, layer, meaning}
use Rattle.wf_layers.specs.Rule.{look_in, look_any, look, Obeys}
use Rattle.wf_layers.proofs.Basics.{two, and_in, and_of, fork, apart, not_true, same_self, starts_outer, index_once, when, unless, only_same, cond_same, in_within, rest_within, other_within, own_in, held_in, inner_not_own, rank_below, falls_rank, none_inside, any_within, among_here, among_there, beside_not, longer, some_turn, sides_out, sides_at, rounds_same}
use Rattle.wf_layers.proofs.Layers.{out_layers, before_layers, after_layers, body, other_turn, turns_out, turns_at, gate_same, leaf_same}

-- THE MEANING OBEYS THE RULE

module _ {Row Begun Decision Verdict : Type 0} (s : Source Row Begun Decision Verdict) (depth : ℕ → ℕ) (low : ℕ → ℕ → Type 0)
    (falls : (a b : ℕ) → low a b → depth a < depth b) (Sees : Address → Address → Type 0) where
  -- what the points in a graph see outside it is as known
  abbrev pub SeesInto : Graph → List ℕ → Table Row → Table Row → Type 0
  SeesInto g i k f =
      (z y : Address) → is_within g i z ≡ true → Sees z y
      → ((is_within g i y ≡ true) × IsEarlier low g i y z) ⊎ ((is_within g i y ≡ false) × (k y ≡ f y))

  abbrev pub SeesKind : Kind → ℕ → List ℕ → Table Row → Table Row → Type 0
  SeesKind kind n i k f =
      (z y : Address) → is_in n kind i z ≡ true → Sees z y → ((is_in n kind i y ≡ true) × earlier_in low kind i y z)
      ⊎ ((is_in n kind i y ≡ false) × (k y ≡ f y))

  abbrev pub known : Graph → List ℕ → Table Row → ℕ → Table Row
  known g i k d = layers d (layer s depth g i) k

  abbrev pub whole : Graph → List ℕ → Table Row → Table Row
  whole g i k = layers (deepest depth g) (layer s depth g i) k

  abbrev pub Full : Graph → List ℕ → Table Row → Table Row → Type 0
  Full g i k f = (y : Address) → is_within g i y ≡ true → f y ≡ whole g i k y

  abbrev pub Clear : Graph → List ℕ → Table Row → Type 0
  Clear g i k = (y : Address) → is_within g i y ≡ true → k y ≡ None

  -- g is the end of the graph w, whose names stand in it alone
  pub record Part (w : Graph) (i : List ℕ) (k : Table Row) (g : Graph) : Type 0 where
    pub within : (y : Address) → is_within g i y ≡ true → is_within w i y ≡ true
    pub ranked : (y : Address) → is_within g i y ≡ true → rank depth w i y ≡ rank depth g i y
    pub layered : (d : ℕ) (y : Address) → is_within g i y ≡ true → layer s depth w i d (known w i k d) y ≡ layer s depth g i d
        (known w i k d) y
    pub joined : (y z : Address) → is_within g i z ≡ true → together low w i y z → together low g i y z

  pub part_all : (w : Graph) (i : List ℕ) (k : Table Row) → Part w i k w
  part_all w i k = record { within = λ y e. e; ranked = λ y e. refl; layered = λ d y e. refl; joined = λ y z e t. t }

  pub part_rest : (w : Graph) (i : List ℕ) (k : Table Row) (n : ℕ) (after : List Need) (kind : Kind) (rest : Graph)
      → ((m : ℕ) → (nat_eq n m || holds kind m) ≡ true → has rest m ≡ false) → Part w i k (add n after kind rest) → Part w i k rest
  part_rest w i k n after kind rest once p = record {
    within = λ y e. p.within y (rest_within n after kind rest i y e);
    ranked = λ y e. p.ranked y (rest_within n after kind rest i y e) ∙ unless (is_in n kind i y) (depth n) (rank depth rest i y) (off y e);
    layered =
        λ d y e. p.layered d y (rest_within n after kind rest i y e)
        ∙ unless (is_in n kind i y) _ (layer s depth rest i d (known w i k d) y) (off y e);
    joined =
        λ y z e t. ⊎_elim (λ h. absurd (true≢false (sym h.0 ∙ off z e))) (λ h. h.1) (p.joined y z (rest_within n after kind rest i z e) t);
  }
    where
      off : (y : Address) → is_within rest i y ≡ true → is_in n kind i y ≡ false
      off y e = apart (nat_eq n y.name || holds kind y.name) (has rest y.name) (starts i y.at) (once y.name) e

  module _ (w : Graph) (i : List ℕ) (k f : Table Row) (n : ℕ) (after : List Need) (kind : Kind) (rest : Graph)
      (p : Part w i k (add n after kind rest)) where
    pub rank_of : (y : Address) → is_in n kind i y ≡ true → rank depth w i y ≡ depth n
    rank_of y t = p.ranked y (in_within n after kind rest i y t) ∙ when (is_in n kind i y) (depth n) (rank depth rest i y) t

    -- an action's block comes from what is known at its depth
    pub block_of : (y : Address) → is_in n kind i y ≡ true
        → whole w i k y ≡ cond (s.pinned n) (s.old y)
        (cond (s.reclosed n || gate s after n i (known w i k (depth n))) (run s depth kind n i (known w i k (depth n)) y)
        (skip s n kind i y))
    block_of y t =
        let m = in_within n after kind rest i y t in
        after_layers s depth w i (deepest depth w) k y (rank_below depth w i y (p.within y m))
        ∙ ap (λ r. known w i k (suc r) y) (rank_of y t)
        ∙ p.layered (depth n) y m
        ∙ when (is_in n kind i y) _ (layer s depth rest i (depth n) (known w i k (depth n)) y) t
        ∙ when (nat_eq (depth n) (depth n)) _ (known w i k (depth n) y) (same_self (depth n))

    kind_sees : SeesInto w i k f → Full w i k f → SeesKind kind n i (known w i k (depth n)) f
    kind_sees sees full z y inz see =
        ⊎_elim
        (λ h. ⊎_elim (λ lt. inr (lower h.0 (falls_rank depth low falls w i y z lt))) (λ t. inside (p.joined y z wz t)) h.1)
        (λ h. inr (
          not_true (is_in n kind i y) (λ t. true≢false (sym (p.within y (in_within n after kind rest i y t)) ∙ h.0)),
          out_layers s depth w i (depth n) k y h.0 ∙ h.1,
        ))
        (sees z y (p.within z wz) see)
      where
        wz : is_within (add n after kind rest) i z ≡ true
        wz = in_within n after kind rest i z inz

        lower : is_within w i y ≡ true → rank depth w i y < rank depth w i z → (is_in n kind i y ≡ false) × (known w i k (depth n) y ≡ f y)
        lower wy lt =
            let r = rank_of z inz in
            let below : rank depth w i y < depth n = subst (λ x. rank depth w i y < x) r lt in (
              not_true (is_in n kind i y) (λ t. let q = rank_of y t in omega (arith, q, below)),
              after_layers s depth w i (depth n) k y below
                  ∙ sym (after_layers s depth w i (deepest depth w) k y (rank_below depth w i y wy)) ∙ sym (full y wy),
            )

        inside : together low (add n after kind rest) i y z → ((is_in n kind i y ≡ true) × earlier_in low kind i y z)
            ⊎ ((is_in n kind i y ≡ false) × (known w i k (depth n) y ≡ f y))
        inside t = ⊎_elim (λ h. inl (h.1, h.2)) (λ h. absurd (true≢false (sym inz ∙ h.0))) t

    pub kind_clear : Clear w i k → (y : Address) → is_in n kind i y ≡ true → known w i k (depth n) y ≡ None
    kind_clear clear y t =
        let r = rank_of y t in
        before_layers s depth w i (depth n) k y (omega (arith, r)) ∙ clear y (p.within y (in_within n after kind rest i y t))

  own_agrees : (kind : Kind) (n : ℕ) (i : List ℕ) (k f : Table Row) → holds kind n ≡ false → SeesKind kind n i k f → (y : Address)
      → Sees (address n i) y → (is_in n kind i y ≡ false) × (k y ≡ f y)
  own_agrees kind n i k f nh sees y see =
      ⊎_elim (λ h. absurd (none_inside low kind n i y nh h.1)) (λ h. h) (sees (address n i) y (own_in n kind i) see)

  -- for an address inside a container, its rows are those of the table at the close
  inner_is : (kind : Kind) (n : ℕ) (i : List ℕ) (f : Table Row) (r : Option Row) (u : Table Row) (y : Address) → holds kind n ≡ false
      → (holds kind y.name && starts i y.at) ≡ true → f y ≡ cond (is_own n i y) r (only (holds kind y.name && starts i y.at) (u y))
      → f y ≡ u y
  inner_is kind n i f r u y nh w e =
      e ∙ unless (is_own n i y) r _ (inner_not_own n kind i y nh (and_in (holds kind y.name) (starts i y.at) w).0)
      ∙ when (holds kind y.name && starts i y.at) (u y) None w

  -- what is to be shown of a graph, and of an action
  abbrev Met : Graph → ℕ → Type 0
  Met g l =
      (i : List ℕ) → length i ≡ l → (k f : Table Row) → SeesInto g i k f → Full g i k f → Clear g i k → (x : Address)
      → is_within g i x ≡ true → whole g i k x ≡ look s g i f x

  abbrev KindMet : Kind → ℕ → ℕ → Type 0
  KindMet kind n l =
      (i : List ℕ) → length i ≡ l → (k f : Table Row) → SeesKind kind n i k f
      → ((y : Address) → is_in n kind i y ≡ true → f y ≡ run s depth kind n i k y)
      → ((y : Address) → is_in n kind i y ≡ true → k y ≡ None)
      → (x : Address) → is_in n kind i x ≡ true → run s depth kind n i k x ≡ look_in s kind n i f x

  action_meets : (l : ℕ) (w : Graph) (i : List ℕ) → length i ≡ l → (k f : Table Row) (n : ℕ) (after : List Need) (kind : Kind)
      (rest : Graph) → Part w i k (add n after kind rest) → GateLocal s Sees after n l → holds kind n ≡ false → KindMet kind n l
      → SeesInto w i k f → Full w i k f → Clear w i k → (x : Address) → is_in n kind i x ≡ true
      → whole w i k x ≡ look s (add n after kind rest) i f x
  action_meets l w i li k f n after kind rest p names nh met sees full clear x t =
      block_of w i k f n after kind rest p x t
      ∙ ⊎_elim
      (λ pin. when (s.pinned n) (s.old x) _ pin ∙ sym (when (s.pinned n) (s.old x) _ pin))
      (λ free. unless (s.pinned n) (s.old x) _ free
      ∙ ap (λ b. cond (s.reclosed n || b) (run s depth kind n i kn x) (skip s n kind i x)) gates
      ∙ ⊎_elim (λ g. when (s.reclosed n || gate s after n i f) _ (skip s n kind i x) g ∙ ran free g
      ∙ sym (when (s.reclosed n || gate s after n i f) _ (skip s n kind i x) g)) (λ g. unless (s.reclosed n || gate s after n i f) _ _ g
      ∙ sym (unless (s.reclosed n || gate s after n i f) _ _ g)) (two (s.reclosed n || gate s after n i f))
      ∙ sym (unless (s.pinned n) (s.old x) _ free))
      (two (s.pinned n))
      ∙ sym (when (is_in n kind i x) _ (look s rest i f x) t)
    where
      kn : Table Row
      kn = known w i k (depth n)

      ks : SeesKind kind n i kn f
      ks = kind_sees w i k f n after kind rest p sees full

      gates : gate s after n i kn ≡ gate s after n i f
      gates = gate_same s Sees after n l names i li kn f (λ y e. (own_agrees kind n i kn f nh ks y e).1)

      ran : s.pinned n ≡ false → (s.reclosed n || gate s after n i f) ≡ true → run s depth kind n i kn x ≡ look_in s kind n i f x
      ran free g =
          met i li kn f ks
          (λ y u. full y (p.within y (in_within n after kind rest i y u)) ∙ block_of w i k f n after kind rest p y u
          ∙ unless (s.pinned n) (s.old y) _ free ∙ when (s.reclosed n || gate s after n i kn) _ (skip s n kind i y)
          (ap (λ b. s.reclosed n || b) gates ∙ g))
          (λ y u. kind_clear w i k f n after kind rest p clear y u) x t

  leaf_meets : (n l : ℕ) → SoundIn s Sees Leaf n l → KindMet Leaf n l
  leaf_meets n l so i li k f sees full clear x t =
      ap (λ r. only (is_own n i x) (Some r)) (leaf_same s Sees n l so i li k f (λ y e. (own_agrees Leaf n i k f refl sees y e).1))

  scope_meets : (g : Graph) (n : ℕ) → has g n ≡ false → (l : ℕ) → SoundIn s Sees (Scope g) n l → Met g l → KindMet (Scope g) n l
  scope_meets g n nh l so met i li k f sees full clear x t =
      cond_same (is_own n i x) _ _ _ _ (λ e. ap Some closes)
      (λ e. only_same (is_within g i x) _ _ (λ w. met i li k f into fk (λ y w. clear y (held_in n (Scope g) i y w)) x w))
    where
      not_in : (y : Address) → is_in n (Scope g) i y ≡ false → is_within g i y ≡ false
      not_in y e = not_true (is_within g i y) (λ w. true≢false (sym (held_in n (Scope g) i y w) ∙ e))

      fk : (y : Address) → is_within g i y ≡ true → f y ≡ whole g i k y
      fk y w = inner_is (Scope g) n i f _ (whole g i k) y nh w (full y (held_in n (Scope g) i y w))

      into : SeesInto g i k f
      into z y w e = ⊎_elim (λ h. inl (h.1.0, h.1.2)) (λ h. inr (not_in y h.0, h.1)) (sees z y (held_in n (Scope g) i z w) e)

      decides : s.decide (address n i) k ≡ s.decide (address n i) f
      decides = so.1 i li k f (λ y e. (own_agrees (Scope g) n i k f nh sees y e).1)

      closes : s.close (address n i) (s.decide (address n i) k) 0 None (whole g i k) ≡ s.close (address n i)
          (s.decide (address n i) f) 0 None f
      closes = ap (λ d. s.close (address n i) d 0 None (whole g i k)) decides
          ∙ so.0 i li (whole g i k) f (s.decide (address n i) f) 0 None
          (λ y e. let h = own_agrees (Scope g) n i k f nh sees y e in out_layers s depth g i (deepest depth g) k y (not_in y h.0) ∙ h.1)
          (λ y w. sym (fk y w))

  -- LOOPS

  loop_meets : (g : Graph) (i : List ℕ) (f : Table Row) (c : ℕ) (k k' : Table Row) (T : ℕ → Table Row)
      → ((j : ℕ) (y : Address) → j < c → is_within g (i ++ j ∷ []) y ≡ true → k' y ≡ body s depth g i j (T j) y)
      → ((y : Address) → ((j : ℕ) → j < c → is_within g (i ++ j ∷ []) y ≡ false) → k' y ≡ k y)
      → ((y : Address) → is_within g i y ≡ true → k y ≡ None)
      → ((j : ℕ) (y : Address) → j < c → is_within g (i ++ j ∷ []) y ≡ true → body s depth g i j (T j) y ≡ look s g (i ++ j ∷ []) f y)
      → (x : Address) → is_within g i x ≡ true → k' x ≡ sides c i (λ j t. look s g (i ++ j ∷ []) f) (λ y. None) x
  loop_meets g i f c k k' T in_it out clear meets x w =
      ⊎_elim
      (λ h. let wj = and_of (has g x.name) (starts (i ++ h.0 ∷ []) x.at) (and_in (has g x.name) (starts i x.at) w).0 h.2 in
      in_it h.0 x h.1 wj ∙ meets h.0 x h.1 wj ∙ sym (sides_at c i (λ j t. look s g (i ++ j ∷ []) f) (λ y. None) x h.0 h.1 h.2))
      (λ h. out x (λ j lt. not_true (is_within g (i ++ j ∷ []) x)
      (λ t. true≢false (sym (and_in (has g x.name) (starts (i ++ j ∷ []) x.at) t).1 ∙ h j lt))) ∙ clear x w
      ∙ sym (sides_out c i (λ j t. look s g (i ++ j ∷ []) f) (λ y. None) x h))
      (some_turn c i x.at)

  pub outer_within : (g : Graph) (i : List ℕ) (j : ℕ) (y : Address) → is_within g (i ++ j ∷ []) y ≡ true → is_within g i y ≡ true
  outer_within g i j y w =
      let h = and_in (has g y.name) (starts (i ++ j ∷ []) y.at) w in and_of (has g y.name) (starts i y.at) h.0 (starts_outer i j y.at h.1)

  pub out_turn : (g : Graph) (n : ℕ) (i : List ℕ) (b : Pace) (y : Address) → is_in n (Foreach b g) i y ≡ false → (m : ℕ)
      → is_within g (i ++ m ∷ []) y ≡ false
  out_turn g n i b y e m =
      not_true (is_within g (i ++ m ∷ []) y) (λ w. true≢false (sym (held_in n (Foreach b g) i y (outer_within g i m y w)) ∙ e))

  pub turn_of : (g : Graph) (i : List ℕ) (j m : ℕ) (z : Address) → is_within g (i ++ j ∷ []) z ≡ true → is_within g (i ++ m ∷ []) z ≡ true
      → j ≡ m
  turn_of g i j m z a b =
      index_once i j m z.at (and_in (has g z.name) (starts (i ++ j ∷ []) z.at) a).1 (and_in (has g z.name) (starts (i ++ m ∷ []) z.at) b).1

  turn_sees : (g : Graph) (n : ℕ) (i : List ℕ) (k f : Table Row) (c : ℕ) → SeesKind (Foreach InTurn g) n i k f
      → ((j : ℕ) (y : Address) → j < c → is_within g (i ++ j ∷ []) y ≡ true → f y ≡ body s depth g i j (turns j (body s depth g i) k) y)
      → (j : ℕ) → j < c → SeesInto g (i ++ j ∷ []) (turns j (body s depth g i) k) f
  turn_sees g n i k f c sees full j lt z y wz e =
      ⊎_elim
      (λ h. ⊎_elim
      (λ q. let same = turn_of g i q.0 j z q.2 wz in
      inl (subst (λ m. is_within g (i ++ m ∷ []) y ≡ true) same q.1, subst (λ m. IsEarlier low g (i ++ m ∷ []) y z) same q.3))
      (λ q. let same = turn_of g i q.1 j z q.5 wz in
      let less : q.0 < j = subst (λ m. q.0 < m) same q.3 in
      let ne : q.0 ≡ j → ⊥ = λ x. omega arith in
      let small : q.0 < c = omega arith in
      inr (other_turn s depth g i q.0 j y q.4 ne, turns_at s depth g i j k y q.0 less q.4 ∙ sym (full q.0 y small q.4)))
      h.1)
      (λ h. inr (out_turn g n i InTurn y h.0 j, turns_out s depth g i j k y (λ m l. out_turn g n i InTurn y h.0 m) ∙ h.1))
      (sees z y (held_in n (Foreach InTurn g) i z (outer_within g i j z wz)) e)

  side_sees : (g : Graph) (most n : ℕ) (i : List ℕ) (k f : Table Row) → SeesKind (Foreach (AtMost most) g) n i k f → (j : ℕ)
      → SeesInto g (i ++ j ∷ []) k f
  side_sees g most n i k f sees j z y wz e =
      ⊎_elim
      (λ h. ⊎_elim
      (λ q. let same = turn_of g i q.0 j z q.2 wz in
      inl (subst (λ m. is_within g (i ++ m ∷ []) y ≡ true) same q.1, subst (λ m. IsEarlier low g (i ++ m ∷ []) y z) same q.3))
      (λ q. absurd (beside_not q.2))
      h.1)
      (λ h. inr (out_turn g n i (AtMost most) y h.0 j, h.1))
      (sees z y (held_in n (Foreach (AtMost most) g) i z (outer_within g i j z wz)) e)

  -- a sequential loop of c iterations, whose close is given
  pub in_turn_meets : (l : ℕ) (g : Graph) (n : ℕ) (i : List ℕ) → length i ≡ l → (k f : Table Row) (c : ℕ) (r : Option Row) → has g n ≡ false
      → Met g (suc l) → SeesKind (Foreach InTurn g) n i k f
      → ((y : Address) → is_in n (Foreach InTurn g) i y ≡ true
      → f y ≡ cond (is_own n i y) r (only (is_within g i y) (turns c (body s depth g i) k y)))
      → ((y : Address) → is_in n (Foreach InTurn g) i y ≡ true → k y ≡ None) → (x : Address) → is_within g i x ≡ true
      → turns c (body s depth g i) k x ≡ sides c i (λ j t. look s g (i ++ j ∷ []) f) (λ y. None) x
  in_turn_meets l g n i li k f c r nh met sees full clear =
      loop_meets g i f c k (turns c (body s depth g i) k) (λ j. turns j (body s depth g i) k)
      (λ j y lt w. turns_at s depth g i c k y j lt w)
      (λ y h. turns_out s depth g i c k y h)
      (λ y w. clear y (held_in n (Foreach InTurn g) i y w))
      (λ j y lt w. met (i ++ j ∷ []) (longer i j l li) (turns j (body s depth g i) k) f (turn_sees g n i k f c sees it_full j lt)
      (λ y w. it_full j y lt w)
      (λ y w. turns_out s depth g i j k y (λ m l. other_turn s depth g i j m y w (λ e. omega arith))
      ∙ clear y (held_in n (Foreach InTurn g) i y (outer_within g i j y w))) y w)
    where
      it_full : (j : ℕ) (y : Address) → j < c → is_within g (i ++ j ∷ []) y ≡ true
          → f y ≡ body s depth g i j (turns j (body s depth g i) k) y
      it_full j y lt w =
          inner_is (Foreach InTurn g) n i f r (turns c (body s depth g i) k) y nh (outer_within g i j y w)
          (full y (held_in n (Foreach InTurn g) i y (outer_within g i j y w))) ∙ turns_at s depth g i c k y j lt w

  foreach_meets : (g : Graph) (n : ℕ) → has g n ≡ false → (l : ℕ) → SoundIn s Sees (Foreach InTurn g) n l → Met g (suc l)
      → KindMet (Foreach InTurn g) n l
  foreach_meets g n nh l so met i li k f sees full clear x t =
      cond_same (is_own n i x) _ _ _ _ (λ e. ap Some closes)
      (λ e. only_same (is_within g i x) _ _ (λ w. in_turn_meets l g n i li k f c _ nh met sees full clear x w))
      ∙ ap (λ d. cond (is_own n i x) (Some (s.close (address n i) d 0 None f))
      (only (is_within g i x) (sides (s.items d) i (λ j t. look s g (i ++ j ∷ []) f) (λ y. None) x))) decides
    where
      d : Decision
      d = s.decide (address n i) k

      c : ℕ
      c = s.items d

      decides : d ≡ s.decide (address n i) f
      decides = so.1 i li k f (λ y e. (own_agrees (Foreach InTurn g) n i k f nh sees y e).1)

      closes : s.close (address n i) d 0 None (turns c (body s depth g i) k) ≡ s.close (address n i) d 0 None f
      closes = so.0 i li (turns c (body s depth g i) k) f d 0 None
          (λ y e. let h = own_agrees (Foreach InTurn g) n i k f nh sees y e in
          turns_out s depth g i c k y (λ j lt. out_turn g n i InTurn y h.0 j) ∙ h.1)
          (λ y w. sym (inner_is (Foreach InTurn g) n i f _ (turns c (body s depth g i) k) y nh w
          (full y (held_in n (Foreach InTurn g) i y w))))

  beside_meets : (g : Graph) (most n : ℕ) → has g n ≡ false → (l : ℕ) → SoundIn s Sees (Foreach (AtMost most) g) n l → Met g (suc l)
      → KindMet (Foreach (AtMost most) g) n l
  beside_meets g most n nh l so met i li k f sees full clear x t =
      cond_same (is_own n i x) _ _ _ _ (λ e. ap Some closes) (λ e. only_same (is_within g i x) _ _ (λ w. inner x w))
      ∙ ap (λ d. cond (is_own n i x) (Some (s.close (address n i) d 0 None f))
      (only (is_within g i x) (sides (s.items d) i (λ j t. look s g (i ++ j ∷ []) f) (λ y. None) x))) decides
    where
      d : Decision
      d = s.decide (address n i) k

      c : ℕ
      c = s.items d

      k' : Table Row
      k' = sides c i (body s depth g i) k

      fk : (y : Address) → is_within g i y ≡ true → f y ≡ k' y
      fk y w = inner_is (Foreach (AtMost most) g) n i f _ k' y nh w (full y (held_in n (Foreach (AtMost most) g) i y w))

      decides : d ≡ s.decide (address n i) f
      decides = so.1 i li k f (λ y e. (own_agrees (Foreach (AtMost most) g) n i k f nh sees y e).1)

      side_out : (y : Address) → ((j : ℕ) → j < c → is_within g (i ++ j ∷ []) y ≡ false) → k' y ≡ k y
      side_out y h = go c (λ j lt. h j lt)
        where
          go : (m : ℕ) → ((j : ℕ) → j < m → is_within g (i ++ j ∷ []) y ≡ false) → sides m i (body s depth g i) k y ≡ k y
          go zero h = refl
          go (suc m) h =
              ⊎_elim
              (λ t. when (starts (i ++ m ∷ []) y.at) (body s depth g i m k y) _ t ∙ out_layers s depth g (i ++ m ∷ []) (deepest depth g) k y
              (h m (omega arith)))
              (λ u. unless (starts (i ++ m ∷ []) y.at) (body s depth g i m k y) _ u ∙ go m (λ j lt. h j (omega arith)))
              (two (starts (i ++ m ∷ []) y.at))

      side_at : (j : ℕ) (y : Address) → j < c → is_within g (i ++ j ∷ []) y ≡ true → k' y ≡ body s depth g i j k y
      side_at j y lt w = sides_at c i (body s depth g i) k y j lt (and_in (has g y.name) (starts (i ++ j ∷ []) y.at) w).1

      inner : (x : Address) → is_within g i x ≡ true → k' x ≡ sides c i (λ j t. look s g (i ++ j ∷ []) f) (λ y. None) x
      inner = loop_meets g i f c k k' (λ j. k) side_at side_out (λ y w. clear y (held_in n (Foreach (AtMost most) g) i y w))
          (λ j y lt w. met (i ++ j ∷ []) (longer i j l li) k f (side_sees g most n i k f sees j)
          (λ y w. fk y (outer_within g i j y w) ∙ side_at j y lt w)
          (λ y w. clear y (held_in n (Foreach (AtMost most) g) i y (outer_within g i j y w))) y w)

      closes : s.close (address n i) d 0 None k' ≡ s.close (address n i) d 0 None f
      closes = so.0 i li k' f d 0 None
          (λ y e. let h = own_agrees (Foreach (AtMost most) g) n i k f nh sees y e in
          side_out y (λ j lt. out_turn g n i (AtMost most) y h.0 j) ∙ h.1)
          (λ y w. sym (fk y w))

  until_sees : (g : Graph) (most n : ℕ) (i : List ℕ) (k f : Table Row) → SeesKind (Until most g) n i k f
      → SeesKind (Foreach InTurn g) n i k f
  until_sees g most n i k f sees z y inz e =
      ⊎_elim (λ h. inl (h.0, ⊎_elim (λ q. inl q) (λ q. inr (q.0, q.1, refl, q.2, q.3, q.4)) h.1)) (λ h. inr h) (sees z y inz e)

  until_meets : (g : Graph) (most n : ℕ) → has g n ≡ false → (l : ℕ) → SoundIn s Sees (Until most g) n l → Met g (suc l)
      → KindMet (Until most g) n l
  until_meets g most n nh l so met i li k f sees full clear x t =
      cond_same (is_own n i x) _ _ _ _ (λ e. ap Some closes)
      (λ e. only_same (is_within g i x) _ _
      (λ w. in_turn_meets l g n i li k f c _ nh met (until_sees g most n i k f sees) full clear x w
      ∙ ap (λ m. sides m i (λ j t. look s g (i ++ j ∷ []) f) (λ y. None) x) counts))
    where
      tested : ℕ → Verdict
      tested j = s.test (address n i) j (turns (suc j) (body s depth g i) k)

      c : ℕ
      c = rounds most 0 (λ j. s.ends (s.test (address n i) j (turns (suc j) (body s depth g i) k)))

      seen : (m : ℕ) (y : Address) → Sees (address n i) y → turns m (body s depth g i) k y ≡ f y
      seen m y e =
          let h = own_agrees (Until most g) n i k f nh sees y e in turns_out s depth g i m k y (λ j lt. out_turn g n i InTurn y h.0 j) ∙ h.1

      fk : (y : Address) → is_within g i y ≡ true → f y ≡ turns c (body s depth g i) k y
      fk y w = inner_is (Until most g) n i f _ (turns c (body s depth g i) k) y nh w (full y (held_in n (Until most g) i y w))

      -- each test that is made is that of f
      tests : (j : ℕ) → j < c → s.test (address n i) j (turns (suc j) (body s depth g i) k) ≡ s.test (address n i) j f
      tests j lt = so.2 i li (turns (suc j) (body s depth g i) k) f j (seen (suc j)) (λ m ml y w.
          turns_at s depth g i (suc j) k y m ml w ∙ sym (turns_at s depth g i c k y m (omega (arith, ml, lt)) w)
          ∙ sym (fk y (outer_within g i m y w)))

      counts : c ≡ rounds most 0 (λ j. s.ends (s.test (address n i) j f))
      counts = rounds_same most 0 _ _ (λ j le lt. ap s.ends (tests j lt))

      last_same : (m : ℕ) → m ≤ c → last m (λ j. s.test (address n i) j (turns (suc j) (body s depth g i) k)) ≡ last m
          (λ j. s.test (address n i) j f)
      last_same zero le = refl
      last_same (suc j) le = ap Some (tests j (omega arith))

      closes : s.close (address n i) (s.decide (address n i) k) c
          (last c (λ j. s.test (address n i) j (turns (suc j) (body s depth g i) k))) (turns c (body s depth g i) k) ≡ s.close (address n i)
          (s.decide (address n i) f) (rounds most 0 (λ j. s.ends (s.test (address n i) j f)))
          (last (rounds most 0 (λ j. s.ends (s.test (address n i) j f))) (λ j. s.test (address n i) j f)) f
      closes =
          ap (λ d. s.close (address n i) d c (last c (λ j. s.test (address n i) j (turns (suc j) (body s depth g i) k)))
          (turns c (body s depth g i) k)) (so.1 i li k f (λ y e. (own_agrees (Until most g) n i k f nh sees y e).1))
          ∙ ap (λ v. s.close (address n i) (s.decide (address n i) f) c v (turns c (body s depth g i) k)) (last_same c (omega arith))
          ∙ so.0 i li (turns c (body s depth g i) k) f (s.decide (address n i) f) c (last c (λ j. s.test (address n i) j f)) (seen c)
          (λ y w. sym (fk y w))
          ∙ ap (λ m. s.close (address n i) (s.decide (address n i) f) m (last m (λ j. s.test (address n i) j f)) f) counts

  -- BRANCHES

  abbrev AllMet : Branches → ℕ → Type 0
  AllMet no_branch l = Unit {0}
  AllMet (branch b rest) l = Met b l × AllMet rest l

  -- what the points in branches see outside their own is as known
  abbrev SeesAny : Branches → List ℕ → Table Row → Table Row → Type 0
  SeesAny bs i k f =
      (z y : Address) → is_among bs i z ≡ true → Sees z y → earlier_any low bs i y z ⊎ ((is_among bs i y ≡ false) × (k y ≡ f y))

  pub any_out : (bs : Branches) (c : ℕ) (i : List ℕ) (k : Table Row) (y : Address) → is_among bs i y ≡ false
      → run_any s depth bs c i k y ≡ k y
  any_out no_branch c i k y e = refl
  any_out (branch b rest) c i k y e =
      unless (is_within b i y) _ _ (not_true (is_within b i y) (λ w. true≢false (sym (among_here b rest i y w) ∙ e)))
      ∙ any_out rest (less_one c) i k y (not_true (is_among rest i y) (λ w. true≢false (sym (among_there b rest i y w) ∙ e)))

  any_meets : (bs : Branches) (l : ℕ) → SoundAny s Sees bs l → AllMet bs l → (c : ℕ) (i : List ℕ) → length i ≡ l → (k f : Table Row)
      → SeesAny bs i k f → ((y : Address) → is_among bs i y ≡ true → f y ≡ run_any s depth bs c i k y)
      → ((y : Address) → is_among bs i y ≡ true → k y ≡ None) → (x : Address) → is_among bs i x ≡ true
      → run_any s depth bs c i k x ≡ look_any s bs c i f x
  any_meets no_branch l so met c i li k f sees full clear x w = absurd (true≢false (sym w))
  any_meets (branch b rest) l so met c i li k f sees full clear x w =
      cond_same (is_within b i x) _ _ _ _
      (λ u. ⊎_elim
      (λ t. when (is_one c) _ _ t
      ∙ met.0 i li k f into (λ y v. full y (among_here b rest i y v) ∙ when (is_within b i y) _ _ v ∙ when (is_one c) _ _ t)
      (λ y v. clear y (among_here b rest i y v)) x u ∙ sym (when (is_one c) _ _ t))
      (λ t. unless (is_one c) _ _ t ∙ sym (unless (is_one c) _ _ t))
      (two (is_one c)))
      (λ u. any_meets rest l so.2 met.1 (less_one c) i li k f into_rest
      (λ y v. full y (among_there b rest i y v) ∙ unless (is_within b i y) _ _ (not_here y v))
      (λ y v. clear y (among_there b rest i y v)) x (fork (has b x.name) (has_any rest x.name) (starts i x.at) w u))
    where
      not_here : (y : Address) → is_among rest i y ≡ true → is_within b i y ≡ false
      not_here y v = apart (has b y.name) (has_any rest y.name) (starts i y.at) (so.0 y.name) v

      into : SeesInto b i k f
      into z y v e =
          ⊎_elim
          (λ h. ⊎_elim (λ q. inl (q.0, q.2)) (λ q. absurd (true≢false (sym v ∙ not_here z (any_within low rest i y z q).1))) h)
          (λ h. inr (not_true (is_within b i y) (λ q. true≢false (sym (among_here b rest i y q) ∙ h.0)), h.1))
          (sees z y (among_here b rest i z v) e)

      into_rest : SeesAny rest i k f
      into_rest z y v e =
          ⊎_elim
          (λ h. ⊎_elim (λ q. absurd (true≢false (sym q.1 ∙ not_here z v))) (λ q. inl q) h)
          (λ h. inr (not_true (is_among rest i y) (λ q. true≢false (sym (among_there b rest i y q) ∙ h.0)), h.1))
          (sees z y (among_there b rest i z v) e)

  choice_meets : (bs : Branches) (n : ℕ) → has_any bs n ≡ false → (l : ℕ) → SoundIn s Sees (Choice bs) n l → AllMet bs l
      → KindMet (Choice bs) n l
  choice_meets bs n nh l so met i li k f sees full clear x t =
      cond_same (is_own n i x) _ _ _ _ (λ e. ap Some closes)
      (λ e. only_same (is_among bs i x) _ _
      (λ w. any_meets bs l so.2 met (s.taken d) i li k f into fk (λ y w. clear y (held_in n (Choice bs) i y w)) x w))
      ∙ ap (λ d. cond (is_own n i x) (Some (s.close (address n i) d 0 None f))
      (only (is_among bs i x) (look_any s bs (s.taken d) i f x))) decides
    where
      d : Decision
      d = s.decide (address n i) k

      decides : d ≡ s.decide (address n i) f
      decides = so.1 i li k f (λ y e. (own_agrees (Choice bs) n i k f nh sees y e).1)

      not_in : (y : Address) → is_in n (Choice bs) i y ≡ false → is_among bs i y ≡ false
      not_in y e = not_true (is_among bs i y) (λ w. true≢false (sym (held_in n (Choice bs) i y w) ∙ e))

      fk : (y : Address) → is_among bs i y ≡ true → f y ≡ run_any s depth bs (s.taken d) i k y
      fk y w = inner_is (Choice bs) n i f _ (run_any s depth bs (s.taken d) i k) y nh w (full y (held_in n (Choice bs) i y w))

      into : SeesAny bs i k f
      into z y w e = ⊎_elim (λ h. inl h.1) (λ h. inr (not_in y h.0, h.1)) (sees z y (held_in n (Choice bs) i z w) e)

      closes : s.close (address n i) d 0 None (run_any s depth bs (s.taken d) i k) ≡ s.close (address n i) d 0 None f
      closes = so.0 i li (run_any s depth bs (s.taken d) i k) f d 0 None
          (λ y e. let h = own_agrees (Choice bs) n i k f nh sees y e in any_out bs (s.taken d) i k y (not_in y h.0) ∙ h.1)
          (λ y w. sym (fk y w))

  -- BY RECURSION ON THE DEFINITION

  mutual
    kind_meets : (kind : Kind) (n l : ℕ) → holds kind n ≡ false → SoundIn s Sees kind n l → KindMet kind n l
    kind_meets Leaf n l nh so = leaf_meets n l so
    kind_meets (Scope g) n l nh so = scope_meets g n nh l so (λ i li k f. walk g g l i li k f so.2 (part_all g i k))
    kind_meets (Choice bs) n l nh so = choice_meets bs n nh l so (all_meet bs l so.2)
    kind_meets (Foreach InTurn g) n l nh so = foreach_meets g n nh l so (λ i li k f. walk g g (suc l) i li k f so.2 (part_all g i k))
    kind_meets (Foreach (AtMost most) g) n l nh so =
        beside_meets g most n nh l so (λ i li k f. walk g g (suc l) i li k f so.2 (part_all g i k))
    kind_meets (Until most g) n l nh so = until_meets g most n nh l so (λ i li k f. walk g g (suc l) i li k f so.3 (part_all g i k))

    all_meet : (bs : Branches) (l : ℕ) → SoundAny s Sees bs l → AllMet bs l
    all_meet no_branch l so = tt
    all_meet (branch b rest) l so = ((λ i li k f. walk b b l i li k f so.1 (part_all b i k)), all_meet rest l so.2)

    walk : (g w : Graph) (l : ℕ) (i : List ℕ) → length i ≡ l → (k f : Table Row) → Sound s Sees g l → Part w i k g → SeesInto w i k f
        → Full w i k f → Clear w i k → (x : Address) → is_within g i x ≡ true → whole w i k x ≡ look s g i f x
    walk done w l i li k f so p sees full clear x m = absurd (true≢false (sym m))
    walk (add n after kind rest) w l i li k f so p sees full clear x m =
        ⊎_elim
        (λ t. action_meets l w i li k f n after kind rest p so.0 so.1 (kind_meets kind n l so.1 so.3) sees full clear x t)
        (λ u. walk rest w l i li k f so.4 (part_rest w i k n after kind rest so.2 p) sees full clear x
        (other_within n after kind rest i x m u) ∙ sym (unless (is_in n kind i x) _ (look s rest i f x) u))
        (two (is_in n kind i x))

  -- The layered meaning obeys the local rule at every address of the definition
  pub meaning_obeys : (g : Graph) → Sound s Sees g 0 → ((y z : Address) → Sees z y → (is_within g [] y ≡ true) × IsEarlier low g [] y z)
      → (x : Address) → is_within g [] x ≡ true → meaning s depth g x ≡ look s g [] (meaning s depth g) x
  meaning_obeys g so sees x w =
      walk g g 0 [] refl (λ y. None) (meaning s depth g) so (part_all g [] (λ y. None)) (λ z y m e. inl (sees y z e)) (λ y m. refl)
      (λ y m. refl) x w

pub before_falls : (g : Graph) (depth : ℕ → ℕ) → IsDepth g depth → (a b : ℕ) → IsBefore g a b → depth a < depth b
before_falls g depth falls a b (next n) = falls a b n
before_falls g depth falls a b (more {q = q} h n) = let x = before_falls g depth falls a q h in let y = falls q b n in omega arith

pub meaning_solves : {Row Begun Decision Verdict : Type 0} (s : Source Row Begun Decision Verdict) (depth : ℕ → ℕ) (g : Graph)
    → IsDepth g depth → Sound s (SeenIn g) g 0 → Obeys s g (meaning s depth g)
meaning_solves s depth g falls so x w = meaning_obeys s depth (IsBefore g) (before_falls g depth falls) (SeenIn g) g so (λ y z e. e) x w
