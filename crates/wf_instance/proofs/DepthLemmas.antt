-- How many actions are before an action falls along every entry of a `runAfter`.
use Rattle.std.proofs.Common.{◌≡◌, ℕ, zero, suc, ◌<◌, ◌≤◌, Bool, true, false, cond, List, [], ◌∷◌, ◌++◌, length, ◌⊎◌, inl, inr, refl, sym}
use Rattle.std.proofs.Common.{ap, ◌∙◌, subst, arith, true≢false}
use Rattle.std.specs.Prelude.{◌↔◌, count_by}
use Rattle.wf_layers.specs.Definition.{Closed, IsDepth, has, next}
use Rattle.std.proofs.lemmas.List.Sums.{sum_by-cons}
use Rattle.wf_layers.proofs.Basics.{two}
use Rattle.wf_accepted_laws.specs.Order.{Among, Before, around}
use Rattle.wf_meant.specs.DefTree.{DefTree}
use Rattle.wf_meant.specs.Names.{graph_names}
use Rattle.wf_meant.specs.Points.{graph_of, is_before}
use Rattle.wf_meant.specs.Record.{depth_of}
use Rattle.wf_meant.specs.References.{upto}
use Rattle.wf_instance.proofs.ExactLemmas.{before_has, entry_has}

among_last : (xs : List ℕ) (x : ℕ) → Among (xs ++ x ∷ []) x
among_last [] x = inl refl
among_last (y ∷ xs) x = inr (among_last xs x)

among_more : (xs ys : List ℕ) (x : ℕ) → Among xs x → Among (xs ++ ys) x
among_more [] ys x among = elim among [ ]
among_more (y ∷ xs) ys x (inl is) = inl is
among_more (y ∷ xs) ys x (inr among) = inr (among_more xs ys x among)

below_or : (n m : ℕ) → m ≤ n → (m ≡ n) ⊎ (m < n)
below_or zero zero le = inl refl
below_or zero (suc m) le = absurd (omega (arith, le))
below_or (suc n) zero le = inr (omega arith)
below_or (suc n) (suc m) le = elim (below_or n m (omega (arith, le))) [
  | inl is ↦ inl (ap suc is)
  | inr less ↦ inr (omega (arith, less))
]

among_next : (n m : ℕ) → m ≤ n → (m < n → Among (upto n) m) → Among (upto n ++ n ∷ []) m
among_next n m le below = elim (below_or n m le) [
  | inl is ↦ subst (λ (k : ℕ). Among (upto n ++ n ∷ []) k) (sym is) (among_last (upto n) n)
  | inr less ↦ among_more (upto n) (n ∷ []) m (below less)
]

below_among : (n m : ℕ) → m < n → Among (upto n) m
below_among zero m less = absurd (omega (arith, less))
below_among (suc n) m less = among_next n m (omega (arith, less)) (below_among n m)

-- ---- of two tests, where one holds wherever the other does, and once more

module _ (P Q : ℕ → Bool) (weaker : (x : ℕ) → P x ≡ true → Q x ≡ true) where
  one_le : (x : ℕ) → cond (P x) 1 0 ≤ cond (Q x) 1 0
  one_le x = go (P x) (Q x) (weaker x)
    where
      go : (b c : Bool) → (b ≡ true → c ≡ true) → cond b 1 0 ≤ cond c 1 0
      go true true h = omega arith
      go true false h = absurd (true≢false (sym (h refl)))
      go false true h = omega arith
      go false false h = omega arith

  abbrev one_of : (ℕ → Bool) → ℕ → ℕ
  one_of test x = cond (test x) 1 0

  count_le : (xs : List ℕ) → count_by P xs ≤ count_by Q xs
  count_le [] = omega arith
  count_le (x ∷ xs) = omega (arith, sum_by-cons (one_of P) x xs, sum_by-cons (one_of Q) x xs, one_le x, count_le xs)

  none_here : (x : ℕ) → P x ≡ false → one_of P x ≡ 0
  none_here x off = ap (λ (b : Bool). cond b 1 0) off

  one_here : (x : ℕ) → Q x ≡ true → one_of Q x ≡ 1
  one_here x on = ap (λ (b : Bool). cond b 1 0) on

  count_less : (xs : List ℕ) (y : ℕ) → Among xs y → P y ≡ false → Q y ≡ true → count_by P xs < count_by Q xs
  count_less [] y among off on = elim among [ ]
  count_less (x ∷ xs) y (inl is) off on =
      omega (
        arith,
        sum_by-cons (one_of P) x xs,
        sum_by-cons (one_of Q) x xs,
        none_here x (ap P is ∙ off),
        one_here x
            (ap Q is ∙ on),
        count_le xs,
      )
  count_less (x ∷ xs) y (inr among) off on =
      omega (arith, sum_by-cons (one_of P) x xs, sum_by-cons (one_of Q) x xs, one_le x, count_less xs y among off on)

-- THE LAW, from what the tables say of actions
pub depths_fall : (d : DefTree) → Closed (graph_of d) (graph_of d)
    → ((x y : ℕ) → has (graph_of d) x ≡ true → has (graph_of d) y ≡ true → (is_before d x y ≡ true) ↔ Before (graph_of d) x y)
    → ((x y z : ℕ) → Before (graph_of d) x y → Before (graph_of d) y z → Before (graph_of d) x z)
    → ((x : ℕ) → Before (graph_of d) x x → ⊥)
    → ((x : ℕ) → has (graph_of d) x ≡ true → x < length (graph_names d.top))
    → IsDepth (graph_of d) (depth_of d)
depths_fall d closed exact along never below p a names =
    let there = entry_has a p (graph_of d) closed names in
    count_less (λ m. is_before d m p) (λ m. is_before d m a)
    (λ x e.
    let has_x = (before_has (length (graph_names d.top)) (graph_of d) x p e).0 in
    (exact x a has_x there.1).1 (along x p a ((exact x p has_x there.0).0 e) before)) (upto (length (graph_names d.top))) p
    (below_among (length (graph_names d.top)) p (below p there.0)) (off there.0 (two (is_before d p p)))
    ((exact p a there.0 there.1).1 before)
  where
    before : Before (graph_of d) p a
    before = record {
      one = p;
      other = a;
      one_up = among_last (around (graph_of d) p) p;
      other_up = among_last (around (graph_of d) a) a;
      ancestor = next names;
    }

    off : has (graph_of d) p ≡ true → (is_before d p p ≡ true) ⊎ (is_before d p p ≡ false) → is_before d p p ≡ false
    off there (inl t) = absurd (never p ((exact p p there there).0 t))
    off there (inr f) = f
