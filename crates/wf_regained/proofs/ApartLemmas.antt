-- Of two instances that exclude each other one didn't run, in each table of the right shape.
use Rattle.std.proofs.Common.{◌≡◌, ◌<◌, ℕ, zero, suc, true, false, ◌||◌, List, [], ◌∷◌, ◌++◌, Option, Some, None, ◌⊎◌, inl, inr}
use Rattle.std.proofs.Common.{refl, sym, ◌∙◌, subst, arith, nat_lt, true≢false}
use Rattle.std.proofs.lemmas.Bool.{ltb-true, ltb-false}
use Rattle.std.proofs.lemmas.Option.{none-some}
use Rattle.wf_layers.specs.Definition.{Status, Succeeded, Failed, Skipped, TimedOut, Cancelled, Kind, Leaf, Scope, Choice, Foreach, Until}
use Rattle.wf_layers.specs.Definition.{Branches, no_branch, branch, Graph, done, add, has, has_any}
use Rattle.wf_layers.specs.Address.{Address, Table, is_among, is_within, starts}
use Rattle.wf_layers.specs.Meaning.{skip, skip_all}
use Rattle.wf_layers.specs.Shape.{HasShape, Reading, Shape, ShapeAny, ShapeIn, SkippedAs}
use Rattle.wf_layers.specs.Source.{Source}
use Rattle.wf_layers.specs.Variables.{exclusive, exclusive_any, exclusive_in}
use Rattle.wf_layers.proofs.Basics.{and_in, and_of, either, index_once, not_true, starts_outer, two}

skips : (s : Status) → (s ≡ Skipped) ⊎ (s ≡ Skipped → ⊥)
skips Succeeded = inr (λ e. absurd (cc))
skips Failed = inr (λ e. absurd (cc))
skips Skipped = inl refl
skips TimedOut = inr (λ e. absurd (cc))
skips Cancelled = inr (λ e. absurd (cc))

module _ {Row Begun Decision Verdict : Type 0} (m : Source Row Begun Decision Verdict) (read : Reading Row) (r : Table Row) where
  -- a row at a place where nothing ran is Skipped
  idle : (e o : Option Row) → SkippedAs m e o → (q : Row) → o ≡ Some q → m.status q ≡ Skipped
  idle None o s q is = absurd (none-some q (sym s ∙ is))
  idle (Some p) o s q is =
      let it : Some s.0 ≡ Some q = sym s.1 ∙ is in
      let same : s.0 ≡ q = cc (it) in
      subst (λ (w : Row). m.status w ≡ Skipped) same s.2

  -- of branches behind the one that is taken
  behind : (bs : Branches) (c : ℕ) (i : List ℕ) → c ≡ 0 → ShapeAny m read r bs c i → (y : Address) (q : Row) → is_among bs i y ≡ true
      → r y ≡ Some q → m.status q ≡ Skipped
  behind no_branch c i none s y q among there = absurd (true≢false (sym among))
  behind (branch b rest) (suc c) i none s y q among there = absurd (cc)
  behind (branch b rest) zero i none s y q among there =
      let h = and_in (has b y.name || has_any rest y.name) (starts i y.at) among in
      elim (either (has b y.name) (has_any rest y.name) h.0) [
        | inl t ↦ idle (skip_all m b i y) (r y) (s.1 refl y (and_of (has b y.name) (starts i y.at) t h.1)) q there
        | inr u ↦ behind rest zero i refl s.2 y q (and_of (has_any rest y.name) (starts i y.at) u h.1) there
      ]

  -- a row in a loop stands in an iteration that it had
  had : (g : Graph) (i : List ℕ) (count j : ℕ)
      → ((y : Address) → is_within g i y ≡ true → ((k : ℕ) → k < count → starts (i ++ k ∷ []) y.at ≡ false) → r y ≡ None)
      → (y : Address) (q : Row) → is_within g (i ++ j ∷ []) y ≡ true → r y ≡ Some q → j < count
  had g i count j none y q within there = elim (two (nat_lt j count)) [
    | inl t ↦ ltb-true j count t
    | inr f ↦
        let h = and_in (has g y.name) (starts (i ++ j ∷ []) y.at) within in
        let gone = none y (and_of (has g y.name) (starts i y.at) h.0 (starts_outer i j y.at h.1))
        (λ k less. not_true (starts (i ++ k ∷ []) y.at) (λ t.
        let same : j ≡ k = index_once i j k y.at h.1 t in
        let off = ltb-false j count f in
        omega (arith, less, same, off))) in
        absurd (none-some q (sym gone ∙ there))
  ]

  module _ (x y : Address) (p q : Row) (of_x : r x ≡ Some p) (of_y : r y ≡ Some q) where
    abbrev OneIdle : Type 0
    OneIdle = (m.status p ≡ Skipped) ⊎ (m.status q ≡ Skipped)

    mutual
      kind_apart : (kind : Kind) (n : ℕ) (i : List ℕ) (row : Row) → ShapeIn m read r kind n i row → exclusive_in kind i x y → OneIdle
      kind_apart Leaf n i row s e = absurd e
      kind_apart (Scope g) n i row s e = graph_apart g i s e.2
      kind_apart (Choice bs) n i row s e = any_apart bs (read.taken n row) i s e
      kind_apart (Foreach pace g) n i row s e =
          graph_apart g (i ++ e.0 ∷ []) (s.0 e.0 (had g i (read.items row) e.0 s.1 x p e.1 of_x)) e.3
      kind_apart (Until most g) n i row s e =
          graph_apart g (i ++ e.0 ∷ []) (s.0 e.0 (had g i (read.rounds row) e.0 s.1 x p e.1 of_x)) e.3

      any_apart : (bs : Branches) (c : ℕ) (i : List ℕ) → ShapeAny m read r bs c i → exclusive_any bs i x y → OneIdle
      any_apart no_branch c i s e = absurd e
      any_apart (branch b rest) zero i s (inl (inl e)) = inl (idle (skip_all m b i x) (r x) (s.1 refl x e.0) p of_x)
      any_apart (branch b rest) zero i s (inl (inr e)) = inr (idle (skip_all m b i y) (r y) (s.1 refl y e.1) q of_y)
      any_apart (branch b rest) zero i s (inr (inl e)) = inl (idle (skip_all m b i x) (r x) (s.1 refl x e.0) p of_x)
      any_apart (branch b rest) zero i s (inr (inr e)) = any_apart rest zero i s.2 e
      any_apart (branch b rest) (suc zero) i s (inl (inl e)) = inr (behind rest zero i refl s.2 y q e.1 of_y)
      any_apart (branch b rest) (suc zero) i s (inl (inr e)) = inl (behind rest zero i refl s.2 x p e.0 of_x)
      any_apart (branch b rest) (suc zero) i s (inr (inl e)) = graph_apart b i (s.0 refl) e.2
      any_apart (branch b rest) (suc zero) i s (inr (inr e)) = any_apart rest zero i s.2 e
      any_apart (branch b rest) (suc (suc c)) i s (inl (inl e)) = inl (idle (skip_all m b i x) (r x) (s.1 refl x e.0) p of_x)
      any_apart (branch b rest) (suc (suc c)) i s (inl (inr e)) = inr (idle (skip_all m b i y) (r y) (s.1 refl y e.1) q of_y)
      any_apart (branch b rest) (suc (suc c)) i s (inr (inl e)) = inl (idle (skip_all m b i x) (r x) (s.1 refl x e.0) p of_x)
      any_apart (branch b rest) (suc (suc c)) i s (inr (inr e)) = any_apart rest (suc c) i s.2 e

      graph_apart : (g : Graph) (i : List ℕ) → Shape m read r g i → exclusive g i x y → OneIdle
      graph_apart done i s e = absurd e
      graph_apart (add n after kind rest) i s (inl e) = elim (skips (m.status s.0.0)) [
        | inl skipped ↦ inl (idle (skip m n kind i x) (r x) (s.0.2 skipped x e.0) p of_x)
        | inr ran ↦ kind_apart kind n i s.0.0 (s.0.3 ran) e.2
      ]
      graph_apart (add n after kind rest) i s (inr e) = graph_apart rest i s.1 e.1

-- THE LAW
pub one_is_idle : {Row Begun Decision Verdict : Type 0} (d : Graph) (m : Source Row Begun Decision Verdict) (read : Reading Row)
    (r : Table Row) → HasShape d m read r → (x y : Address) (p q : Row) → r x ≡ Some p → r y ≡ Some q → exclusive d [] x y
    → (m.status p ≡ Skipped) ⊎ (m.status q ≡ Skipped)
one_is_idle d m read r shape x y p q of_x of_y e = graph_apart m read r x y p q of_x of_y d [] shape.within e
