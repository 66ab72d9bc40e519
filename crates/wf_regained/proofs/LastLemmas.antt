-- The last of the writers that were gone over is the last of all, whatever the order in which they came.
use Rattle.std.proofs.Common.{◌≡◌, ℕ, Bool, true, false, not, cond, List, [], ◌∷◌, Option, Some, None, ◌⊎◌, inl, inr, refl, sym, ap, ◌∙◌}
use Rattle.std.proofs.Common.{subst, true≢false}
use Rattle.wf_layers.specs.Address.{Address, SeenIn}
use Rattle.wf_layers.specs.Listed.{Among}
use Rattle.wf_layers.specs.Seen.{Once}
use Rattle.wf_layers.proofs.Basics.{two, unless, when}
use Rattle.wf_asks.specs.Instances.{address_of}
use Rattle.wf_asks.specs.declared.known.RowAt.{RowAt}
use Rattle.wf_def.specs.DefTree.{DefTree}
use Rattle.wf_record.specs.declared.row.Row.{Row}
use Rattle.wf_turns.specs.Points.{graph_of}
use Rattle.wf_sight_laws.specs.Writes.{writes}
use Rattle.wf_sight_laws.specs.Seen.{row_content}
use Rattle.wf_regained.specs.Last.{comes_after, last_from, last_of}
use Rattle.wf_regained.proofs.ChainLemmas.{seen_chain}

module _ (d : DefTree) (v : ℕ) (once : Once (graph_of d)) where
  -- one of each two of these sees the other, and the later one is told so
  pub record Line (W : Address → Type 0) : Type 0 where
    pub ordered : (x y : Address) → W x → W y → (x ≡ y) ⊎ (SeenIn (graph_of d) x y ⊎ SeenIn (graph_of d) y x)
    pub later : (x y : Address) → W x → W y → SeenIn (graph_of d) y x → comes_after d x y ≡ true
    pub never : (x y : Address) → W x → W y → comes_after d x y ≡ true → comes_after d y x ≡ true → ⊥

  -- the last of these, if there is one
  abbrev pub Leads : (Address → Type 0) → Option Address → Type 0
  Leads W None = (z : Address) → W z → ⊥
  Leads W (Some y) = W y × ((z : Address) → W z → (z ≡ y) ⊎ SeenIn (graph_of d) y z)

  same_leads : (V W : Address → Type 0) → ((z : Address) → V z → W z) → ((z : Address) → W z → V z) → (o : Option Address) → Leads V o
      → Leads W o
  same_leads V W to from None h = λ z w. h z (from z w)
  same_leads V W to from (Some y) h = (to y h.0, λ z w. h.1 z (from z w))

  abbrev And : (Address → Type 0) → Address → Address → Type 0
  And W y z = W z ⊎ (z ≡ y)

  -- ---- one more

  -- x was the last, and y is later
  over : (W : Address → Type 0) (x y : Address) → Line (And W y) → Leads W (Some x) → comes_after d x y ≡ true → Leads (And W y) (Some y)
  over W x y line h after = (inr refl, λ z w. behind z w)
    where
      own : And W y y
      own = inr refl

      -- nothing that x sees sees y
      seen : SeenIn (graph_of d) x y → ⊥
      seen s = line.never x y (inl h.0) own after (line.later y x own (inl h.0) s)

      far : (z : Address) → W z → SeenIn (graph_of d) z y → (z ≡ x) ⊎ SeenIn (graph_of d) x z → ⊥
      far z w s (inl same) = seen (subst (λ (q : Address). SeenIn (graph_of d) q y) same s)
      far z w s (inr t) = seen (seen_chain (graph_of d) once y z x s t)

      behind : (z : Address) → And W y z → (z ≡ y) ⊎ SeenIn (graph_of d) y z
      behind z (inr same) = inl same
      behind z (inl w) = elim (line.ordered z y (inl w) own) [
        | inl same ↦ inl same
        | inr (inl s) ↦ absurd (far z w s (h.1 z w))
        | inr (inr s) ↦ inr s
      ]

  -- x was the last, and y isn't later
  under : (W : Address → Type 0) (x y : Address) → Line (And W y) → Leads W (Some x) → comes_after d x y ≡ false → Leads (And W y) (Some x)
  under W x y line h before = (inl h.0, λ z w. behind z w)
    where
      own : And W y y
      own = inr refl

      of_y : (z : Address) → z ≡ y → (x ≡ y) ⊎ (SeenIn (graph_of d) x y ⊎ SeenIn (graph_of d) y x)
          → (z ≡ x) ⊎ SeenIn (graph_of d) x z
      of_y z same (inl e) = inl (same ∙ sym e)
      of_y z same (inr (inl s)) = inr (subst (λ (q : Address). SeenIn (graph_of d) x q) (sym same) s)
      of_y z same (inr (inr s)) = absurd (true≢false (sym (line.later x y (inl h.0) own s) ∙ before))

      behind : (z : Address) → And W y z → (z ≡ x) ⊎ SeenIn (graph_of d) x z
      behind z (inl w) = h.1 z w
      behind z (inr same) = of_y z same (line.ordered x y (inl h.0) own)

  one_more : (W : Address → Type 0) (last : Option Address) (y : Address) → Line (And W y) → Leads W last
      → Leads (And W y) (last_of d last y)
  one_more W None y line h = (inr refl, λ z w. only z w)
    where
      only : (z : Address) → And W y z → (z ≡ y) ⊎ SeenIn (graph_of d) y z
      only z (inl w) = absurd (h z w)
      only z (inr same) = inl same
  one_more W (Some x) y line h = elim (two (comes_after d x y)) [
    | inl t ↦ subst (λ (o : Option Address). Leads (And W y) o)
        (sym (ap (λ (b : Bool). cond (not b) (Some x) (Some y)) t)) (over W x y line h t)
    | inr f ↦ subst (λ (o : Option Address). Leads (And W y) o)
        (sym (ap (λ (b : Bool). cond (not b) (Some x) (Some y)) f)) (under W x y line h f)
  ]

  -- ---- of rows

  abbrev place_of : RowAt Row → Address
  place_of r = address_of r.instance

  abbrev Writes : RowAt Row → Type 0
  Writes r = writes d v (place_of r) (row_content r.row) ≡ true

  abbrev pub Written : List (RowAt Row) → Address → Type 0
  Written rs z = (r : RowAt Row) × Among rs r × (place_of r ≡ z) × Writes r

  abbrev Or : (Address → Type 0) → List (RowAt Row) → Address → Type 0
  Or W rs z = W z ⊎ Written rs z

  -- fewer are in line, too
  fewer : (V W : Address → Type 0) → ((z : Address) → W z → V z) → Line V → Line W
  fewer V W from line = record {
    ordered = λ x y a b. line.ordered x y (from x a) (from y b);
    later = λ x y a b s. line.later x y (from x a) (from y b) s;
    never = λ x y a b s t. line.never x y (from x a) (from y b) s t;
  }

  module _ (W : Address → Type 0) (r : RowAt Row) (rs : List (RowAt Row)) where
    into : Writes r → (z : Address) → Or (And W (place_of r)) rs z → Or W (r ∷ rs) z
    into wr z (inl (inl w)) = inl w
    into wr z (inl (inr same)) = inr (r, inl refl, sym same, wr)
    into wr z (inr h) = inr (h.0, inr h.1, h.2, h.3)

    from : Writes r → (z : Address) → Or W (r ∷ rs) z → Or (And W (place_of r)) rs z
    from wr z (inl w) = inl (inl w)
    from wr z (inr (q, inl same, at, wq)) = inl (inr (sym at ∙ ap place_of (sym same)))
    from wr z (inr (q, inr later, at, wq)) = inr (q, later, at, wq)

    past : writes d v (place_of r) (row_content r.row) ≡ false → (z : Address) → Or W (r ∷ rs) z → Or W rs z
    past off z (inl w) = inl w
    past off z (inr (q, inl same, at, wq)) =
        absurd (true≢false (sym wq ∙ ap (λ (s : RowAt Row). writes d v (place_of s) (row_content s.row)) (sym same) ∙ off))
    past off z (inr (q, inr later, at, wq)) = inr (q, later, at, wq)

    back : (z : Address) → Or W rs z → Or W (r ∷ rs) z
    back z (inl w) = inl w
    back z (inr h) = inr (h.0, inr h.1, h.2, h.3)

  pub all_lead : (rs : List (RowAt Row)) (W : Address → Type 0) (last : Option Address) → Line (Or W rs) → Leads W last
      → Leads (Or W rs) (last_from d v last rs)
  all_lead [] W last line h = same_leads W (Or W []) (λ z w. inl w) (λ z w. only z w) last h
    where
      only : (z : Address) → Or W [] z → W z
      only z (inl w) = w
      only z (inr h) = absurd h.1
  all_lead (r ∷ rs) W last line h = elim (two (writes d v (place_of r) (row_content r.row))) [
    | inl wr ↦ subst (λ (o : Option Address). Leads (Or W (r ∷ rs)) (last_from d v o rs))
        (sym (when (writes d v (place_of r) (row_content r.row)) (last_of d last (place_of r)) last wr))
        (same_leads (Or (And W (place_of r)) rs) (Or W (r ∷ rs)) (into W r rs wr) (from W r rs wr)
        (last_from d v (last_of d last (place_of r)) rs)
        (all_lead rs (And W (place_of r)) (last_of d last (place_of r))
        (fewer (Or W (r ∷ rs)) (Or (And W (place_of r)) rs) (into W r rs wr) line)
        (one_more W last (place_of r)
        (fewer (Or W (r ∷ rs)) (And W (place_of r)) (λ z w. into W r rs wr z (inl w)) line) h)))
    | inr off ↦ subst (λ (o : Option Address). Leads (Or W (r ∷ rs)) (last_from d v o rs))
        (sym (unless (writes d v (place_of r) (row_content r.row)) (last_of d last (place_of r)) last off))
        (same_leads (Or W rs) (Or W (r ∷ rs)) (back W r rs) (past W r rs off) (last_from d v last rs)
        (all_lead rs W last (fewer (Or W (r ∷ rs)) (Or W rs) (back W r rs) line) h))
  ]
