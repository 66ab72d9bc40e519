-- Of two writers that see each other the one that sees is later, and never both are.
use Rattle.std.proofs.Common.{◌≡◌, ℕ, suc, Bool, true, ◌&&◌, List, [], ◌∷◌, length, inl, inr, sym, ◌∙◌, arith, nat_eq, true≢false}
use Rattle.std.specs.Prelude.{nat_lt, if◌then◌else◌}
use Rattle.std.proofs.lemmas.Bool.{ltb-true}
use Rattle.wf_layers.specs.Address.{Address, SeenIn}
use Rattle.wf_layers.specs.Definition.{Pace, has}
use Rattle.wf_layers.specs.Seen.{Once}
use Rattle.wf_layers.proofs.Basics.{and_in, two, unless, when}
use Rattle.wf_def.specs.DefTree.{DefTree}
use Rattle.wf_order.specs.Order.{Before}
use Rattle.wf_loops.specs.Loops.{is_earlier, is_in_turn, loops_of, paces_round}
use Rattle.wf_turns.specs.Points.{graph_of, is_before}
use Rattle.wf_sight_laws.specs.Loops.{common}
use Rattle.wf_sight_laws.proofs.LoopLemmas.{fronts_of}
use Rattle.wf_regained.specs.Last.{comes_after, is_later}

-- ---- what is earlier by how the loops round both go is so by the loops themselves

pub by_loops : (ps : List Pace) (loops others is js : List ℕ) (before : Bool) → common loops others ≡ length ps
    → is_earlier ps is js before ≡ true → is_later loops others is js before ≡ true
by_loops [] [] others is js before many e = e
by_loops [] (l ∷ ls) [] is js before many e = e
by_loops [] (l ∷ ls) (m ∷ ms) [] js before many e = e
by_loops [] (l ∷ ls) (m ∷ ms) (i ∷ is) [] before many e = e
by_loops [] (l ∷ ls) (m ∷ ms) (i ∷ is) (j ∷ js) before many e = elim (two (nat_eq l m)) [
  | inl t ↦
      let none : suc (common ls ms) ≡ 0 = sym (when (nat_eq l m) (suc (common ls ms)) 0 t) ∙ many in
      absurd (omega (arith, none))
  | inr f ↦ unless (nat_eq l m) (if nat_eq i j then is_later ls ms is js before else nat_lt i j) before f ∙ e
]
by_loops (p ∷ ps) [] others is js before many e = absurd (cc)
by_loops (p ∷ ps) (l ∷ ls) [] is js before many e = absurd (cc)
by_loops (p ∷ ps) (l ∷ ls) (m ∷ ms) [] js before many e = absurd (true≢false (sym e))
by_loops (p ∷ ps) (l ∷ ls) (m ∷ ms) (i ∷ is) [] before many e = absurd (true≢false (sym e))
by_loops (p ∷ ps) (l ∷ ls) (m ∷ ms) (i ∷ is) (j ∷ js) before many e = elim (two (nat_eq l m)) [
  | inl t ↦
      let more : suc (common ls ms) ≡ suc (length ps) = sym (when (nat_eq l m) (suc (common ls ms)) 0 t) ∙ many in
      when (nat_eq l m) (if nat_eq i j then is_later ls ms is js before else nat_lt i j) before t
      ∙ elim (two (nat_eq i j)) [
        | inl same ↦ when (nat_eq i j) (is_later ls ms is js before) (nat_lt i j) same
            ∙ by_loops ps ls ms is js before (omega (arith, more))
            (sym (when (nat_eq i j) (is_earlier ps is js before) (is_in_turn p && nat_lt i j) same) ∙ e)
        | inr other ↦ unless (nat_eq i j) (is_later ls ms is js before) (nat_lt i j) other
            ∙ (and_in (is_in_turn p) (nat_lt i j)
            (sym (unless (nat_eq i j) (is_earlier ps is js before) (is_in_turn p && nat_lt i j) other) ∙ e)).1
      ]
  | inr f ↦
      let none : 0 ≡ suc (length ps) = sym (unless (nat_eq l m) (suc (common ls ms)) 0 f) ∙ many in
      absurd (omega (arith, none))
]

-- ---- never both are later

flipped : (a b : ℕ) → nat_eq a b ≡ nat_eq b a
flipped a b = grind (arith)

never_both : (loops others is js : List ℕ) (b c : Bool) → (b ≡ true → c ≡ true → ⊥) → is_later loops others is js b ≡ true
    → is_later others loops js is c ≡ true → ⊥
never_both [] [] is js b c apart e f = apart e f
never_both [] (m ∷ ms) is js b c apart e f = apart e f
never_both (l ∷ ls) [] is js b c apart e f = apart e f
never_both (l ∷ ls) (m ∷ ms) [] [] b c apart e f = apart e f
never_both (l ∷ ls) (m ∷ ms) [] (j ∷ js) b c apart e f = apart e f
never_both (l ∷ ls) (m ∷ ms) (i ∷ is) [] b c apart e f = apart e f
never_both (l ∷ ls) (m ∷ ms) (i ∷ is) (j ∷ js) b c apart e f =
    elim (two (nat_eq l m)) [
      | inl t ↦
          let one = sym (when (nat_eq l m) (if nat_eq i j then is_later ls ms is js b else nat_lt i j) b t) ∙ e in
          let other = sym (when (nat_eq m l) (if nat_eq j i then is_later ms ls js is c else nat_lt j i) c (flipped m l ∙ t)) ∙ f in
          elim (two (nat_eq i j)) [
            | inl same ↦ never_both ls ms is js b c apart
                (sym (when (nat_eq i j) (is_later ls ms is js b) (nat_lt i j) same) ∙ one)
                (sym (when (nat_eq j i) (is_later ms ls js is c) (nat_lt j i) (flipped j i ∙ same)) ∙ other)
            | inr differ ↦
                let less = ltb-true i j (sym (unless (nat_eq i j) (is_later ls ms is js b) (nat_lt i j) differ) ∙ one) in
                let more = ltb-true j i (sym (unless (nat_eq j i) (is_later ms ls js is c) (nat_lt j i) (flipped j i ∙ differ)) ∙ other) in
                omega (arith, less, more)
          ]
      | inr g ↦ apart (sym (unless (nat_eq l m) (if nat_eq i j then is_later ls ms is js b else nat_lt i j) b g) ∙ e)
          (sym (unless (nat_eq m l) (if nat_eq j i then is_later ms ls js is c else nat_lt j i) c (flipped m l ∙ g)) ∙ f)
    ]

-- what is known of the order
abbrev pub IsExact : DefTree → Type 0
IsExact d =
    (x y : ℕ) → has (graph_of d) x ≡ true → has (graph_of d) y ≡ true
    → (is_before d x y ≡ true → Before (graph_of d) x y) × (Before (graph_of d) x y → is_before d x y ≡ true)

abbrev pub NeverBoth : DefTree → Type 0
NeverBoth d = (x y : ℕ) → Before (graph_of d) x y → Before (graph_of d) y x → ⊥

abbrev pub SeenAreEarlier : DefTree → Type 0
SeenAreEarlier d =
    (x y : Address) (before : Bool) → (Before (graph_of d) x.name y.name → before ≡ true) → SeenIn (graph_of d) y x
    → is_earlier (paces_round (graph_of d) x.name y.name) x.at y.at before ≡ true

-- THE LAW
module _ (d : DefTree) (once : Once (graph_of d)) (exact : IsExact d) (never : NeverBoth d) (earlier : SeenAreEarlier d) where
  pub seen_later : (x y : Address) → has (graph_of d) x.name ≡ true → has (graph_of d) y.name ≡ true → SeenIn (graph_of d) y x
      → comes_after d x y ≡ true
  seen_later x y hx hy seen =
      by_loops (paces_round (graph_of d) x.name y.name) (loops_of (graph_of d) x.name) (loops_of (graph_of d) y.name) x.at y.at
      (is_before d x.name y.name) (fronts_of (graph_of d) once x.name y.name).many
      (earlier x y (is_before d x.name y.name) (λ b. (exact x.name y.name hx hy).1 b) seen)

  pub one_is_later : (x y : Address) → has (graph_of d) x.name ≡ true → has (graph_of d) y.name ≡ true → comes_after d x y ≡ true
      → comes_after d y x ≡ true → ⊥
  one_is_later x y hx hy e f =
      never_both (loops_of (graph_of d) x.name) (loops_of (graph_of d) y.name) x.at y.at (is_before d x.name y.name)
      (is_before d y.name x.name)
      (λ b c. never x.name y.name ((exact x.name y.name hx hy).0 b) ((exact y.name x.name hy hx).0 c)) e f
