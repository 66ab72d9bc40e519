-- What a layer, and one iteration after the other, leave alone.
use Rattle.std.proofs.Common.{◌≡◌, ℕ, zero, suc, ◌<◌, ◌≤◌, true, false, not, ◌&&◌, ◌||◌, cond, List, [], ◌∷◌, ◌++◌, inl, inr, ⊎_elim, refl, sym, ap, ◌∙◌, arith, nat_eq, eqb-true, ne_eqb, true≢false, length}
use Rattle.std.proofs.lemmas.Bool.{eqb-false}
use Rattle.wf_layers.specs.Definition.{Need, Names, Leaf, Graph, done, add, has}
use Rattle.wf_layers.specs.Address.{Address, address, Table, starts, is_in, is_within}
use Rattle.wf_layers.specs.Source.{Source, is_met, all_met, gate, leaf, Agrees, GateLocal, SoundIn}
use Rattle.wf_layers.specs.Meaning.{layers, turns, deepest, rank, skip, run, layer}
use Rattle.wf_layers.proofs.Basics.{two, and_in, not_true, index_once, when, unless, in_within, rest_within}

-- LAYERS

module _ {Row Begun Decision Verdict : Type 0} (s : Source Row Begun Decision Verdict) (depth : ℕ → ℕ) where
  -- a layer leaves alone what isn't in the graph
  pub out_layer : (g : Graph) (i : List ℕ) (d : ℕ) (k : Table Row) (y : Address) → is_within g i y ≡ false → layer s depth g i d k y ≡ k y
  out_layer done i d k y e = refl
  out_layer (add n after kind rest) i d k y e =
      let out = not_true (is_in n kind i y) (λ t. true≢false (sym (in_within n after kind rest i y t) ∙ e)) in
      unless (is_in n kind i y)
      (cond (nat_eq (depth n) d)
      (cond (s.pinned n) (s.old y) (cond (s.reclosed n || gate s after n i k) (run s depth kind n i k y) (skip s n kind i y))) (k y))
      (layer s depth rest i d k y) out
      ∙ out_layer rest i d k y (not_true (is_within rest i y) (λ t. true≢false (sym (rest_within n after kind rest i y t) ∙ e)))

  pub out_layers : (g : Graph) (i : List ℕ) (d : ℕ) (k : Table Row) (y : Address) → is_within g i y ≡ false
      → layers d (layer s depth g i) k y ≡ k y
  out_layers g i zero k y e = refl
  out_layers g i (suc d) k y e = out_layer g i d (layers d (layer s depth g i) k) y e ∙ out_layers g i d k y e

  -- and what has another depth
  pub off_layer : (g : Graph) (i : List ℕ) (d : ℕ) (k : Table Row) (y : Address) → (rank depth g i y ≡ d → ⊥)
      → layer s depth g i d k y ≡ k y
  off_layer done i d k y ne = refl
  off_layer (add n after kind rest) i d k y ne =
      ⊎_elim
      (λ t. when (is_in n kind i y) _ (layer s depth rest i d k y) t
      ∙ unless (nat_eq (depth n) d) _ (k y) (ne_eqb (depth n) d (λ e. ne (when (is_in n kind i y) (depth n) (rank depth rest i y) t ∙ e))))
      (λ f. unless (is_in n kind i y) _ (layer s depth rest i d k y) f
      ∙ off_layer rest i d k y (λ e. ne (unless (is_in n kind i y) (depth n) (rank depth rest i y) f ∙ e)))
      (two (is_in n kind i y))

  pub before_layers : (g : Graph) (i : List ℕ) (d : ℕ) (k : Table Row) (y : Address) → d ≤ rank depth g i y
      → layers d (layer s depth g i) k y ≡ k y
  before_layers g i zero k y le = refl
  before_layers g i (suc d) k y le =
      off_layer g i d (layers d (layer s depth g i) k) y (λ e. omega arith) ∙ before_layers g i d k y (omega arith)

  pub after_layers : (g : Graph) (i : List ℕ) (d : ℕ) (k : Table Row) (y : Address) → rank depth g i y < d
      → layers d (layer s depth g i) k y ≡ layers (suc (rank depth g i y)) (layer s depth g i) k y
  after_layers g i zero k y le = absurd (omega arith)
  after_layers g i (suc d) k y le =
      ⊎_elim
      (λ t. ap (λ r. layers (suc r) (layer s depth g i) k y) (sym (eqb-true (rank depth g i y) d t)))
      (λ f. off_layer g i d (layers d (layer s depth g i) k) y (eqb-false (rank depth g i y) d f) ∙ after_layers g i d k y (less f))
      (two (nat_eq (rank depth g i y) d))
    where
      less : nat_eq (rank depth g i y) d ≡ false → rank depth g i y < d
      less f = omega (arith, eqb-false (rank depth g i y) d f)

module _ {Row Begun Decision Verdict : Type 0} (s : Source Row Begun Decision Verdict) (depth : ℕ → ℕ) where
  abbrev pub body : Graph → List ℕ → ℕ → Table Row → Table Row
  body g i j = layers (deepest depth g) (layer s depth g (i ++ j ∷ []))

  pub other_turn : (g : Graph) (i : List ℕ) (j m : ℕ) (y : Address) → is_within g (i ++ j ∷ []) y ≡ true → (j ≡ m → ⊥)
      → is_within g (i ++ m ∷ []) y ≡ false
  other_turn g i j m y w ne =
      not_true (is_within g (i ++ m ∷ []) y)
      (λ t. ne (index_once i j m y.at (and_in (has g y.name) (starts (i ++ j ∷ []) y.at) w).1
      (and_in (has g y.name) (starts (i ++ m ∷ []) y.at) t).1))

  pub turns_out : (g : Graph) (i : List ℕ) (c : ℕ) (k : Table Row) (y : Address) → ((j : ℕ) → j < c → is_within g (i ++ j ∷ []) y ≡ false)
      → turns c (body g i) k y ≡ k y
  turns_out g i zero k y h = refl
  turns_out g i (suc c) k y h =
      out_layers s depth g (i ++ c ∷ []) (deepest depth g) (turns c (body g i) k) y (h c (omega arith))
      ∙ turns_out g i c k y (λ j lt. h j (omega arith))

  pub turns_at : (g : Graph) (i : List ℕ) (c : ℕ) (k : Table Row) (y : Address) (j : ℕ) → j < c → is_within g (i ++ j ∷ []) y ≡ true
      → turns c (body g i) k y ≡ body g i j (turns j (body g i) k) y
  turns_at g i zero k y j lt w = absurd (omega arith)
  turns_at g i (suc c) k y j lt w =
      ⊎_elim
      (λ e. ap (λ m. body g i m (turns m (body g i) k) y) (sym (eqb-true j c e)))
      (λ ne. out_layers s depth g (i ++ c ∷ []) (deepest depth g) (turns c (body g i) k) y (other_turn g i j c y w (eqb-false j c ne))
      ∙ turns_at g i c k y j (less ne) w)
      (two (nat_eq j c))
    where
      less : nat_eq j c ≡ false → j < c
      less ne = omega (arith, eqb-false j c ne)

-- WHAT A POINT SEES

module _ {Row Begun Decision Verdict : Type 0} (s : Source Row Begun Decision Verdict) (Sees : Address → Address → Type 0) where
  -- what is waited for is the same where it is seen
  pub met_same : (after : List Need) (i : List ℕ) (t u : Table Row) → ((p : ℕ) → Names after p → t (address p i) ≡ u (address p i))
      → all_met s after i t ≡ all_met s after i u
  met_same [] i t u h = refl
  met_same (n ∷ ns) i t u h =
      ap (λ x. is_met s n.listed x && all_met s ns i t) (h n.name (inl refl)) ∙ ap (λ x. is_met s n.listed (u (address n.name i)) && x)
      (met_same ns i t u (λ p m. h p (inr m)))

  -- a gate is the same where what it sees is
  pub gate_same : (after : List Need) (n l : ℕ) → GateLocal s Sees after n l → (i : List ℕ) → length i ≡ l → (t u : Table Row)
      → Agrees Sees (address n i) t u → gate s after n i t ≡ gate s after n i u
  gate_same after n l local i li t u same =
      ap (λ b. b && not (s.halts (address n i) t)) (met_same after i t u (λ p m. same (address p i) (local.0 i li p m)))
      ∙ ap (λ b. all_met s after i u && not b) (local.1 i li t u same)

  -- and a leaf's row
  pub leaf_same : (n l : ℕ) → SoundIn s Sees Leaf n l → (i : List ℕ) → length i ≡ l → (t u : Table Row) → Agrees Sees (address n i) t u
      → leaf s (address n i) t ≡ leaf s (address n i) u
  leaf_same n l so i li t u same = ap (λ b. s.finish (address n i) b t) (so.0 i li t u same) ∙ so.1 i li t u (s.start (address n i) u) same
