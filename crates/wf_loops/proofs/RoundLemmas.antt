-- A loop round an action contains it, and the loops round it are those that stand before it in the action's list.
use Rattle.std.proofs.Common.{◌≡◌, ℕ, true, false, ◌||◌, cond, List, [], ◌∷◌, ◌++◌, ◌⊎◌, inl, inr, refl, sym, ap, ◌∙◌, subst, true≢false}
use Rattle.std.proofs.Common.{nat_eq, eqb-true}
use Rattle.wf_order.specs.Definition.{Kind, Leaf, Scope, Choice, Foreach, Until, Branches, no_branch, branch, Graph, done, add, holds, has}
use Rattle.wf_order.specs.Seen.{Once, OnceIn, OnceAny}
use Rattle.wf_order.proofs.Basics.{two, or_first, or_second, when, unless, same_self}
use Rattle.wf_order.specs.Order.{Among, around, around_any, around_in}
use Rattle.wf_order.proofs.RelationLemmas.{around_has, branch_has}
use Rattle.wf_loops.specs.Loops.{loops_any, loops_in, loops_of}

none_split : (ps : List ℕ) (l : ℕ) (qs : List ℕ) → [] ≡ ps ++ l ∷ qs → ⊥
none_split [] l qs e = cc
none_split (p ∷ ps) l qs e = cc

first_is : {n l : ℕ} {ns ls : List ℕ} → n ∷ ns ≡ l ∷ ls → n ≡ l
first_is e = cc

rest_is : {n l : ℕ} {ns ls : List ℕ} → n ∷ ns ≡ l ∷ ls → ns ≡ ls
rest_is e = cc

-- ---- no loops are round what isn't there

pub loops_none : (g : Graph) (x : ℕ) → has g x ≡ false → loops_of g x ≡ []
loops_none done x off = refl
loops_none (add n after kind rest) x off = elim (two (holds kind x)) [
  | inl t ↦ absurd (true≢false (sym (or_first (nat_eq n x || holds kind x) (has rest x) (or_second (nat_eq n x) (holds kind x) t)) ∙ off))
  | inr f ↦ unless (holds kind x) (loops_in n kind x) (loops_of rest x) f ∙ loops_none rest x (not_behind (two (has rest x)))
]
  where
    not_behind : (has rest x ≡ true) ⊎ (has rest x ≡ false) → has rest x ≡ false
    not_behind (inl t) = absurd (true≢false (sym (or_second (nat_eq n x || holds kind x) (has rest x) t) ∙ off))
    not_behind (inr f) = f

-- ---- a loop round n: it contains n, and the loops round it are those outside of it round n

pub record Split (loops : List ℕ) (round : List ℕ) (l : ℕ) (ps : List ℕ) : Type 0 where
  pub outer : loops ≡ ps
  pub contains : Among round l

-- of the container m of a kind: the loop is m itself, or stands inside
data SplitIn (m : ℕ) (kind : Kind) (n l : ℕ) (ps : List ℕ) : Type 0 where
  itself : m ≡ l → ps ≡ [] → SplitIn m kind n l ps
  inner : holds kind l ≡ true → loops_in m kind l ≡ ps → Among (around_in kind n) l → SplitIn m kind n l ps

mutual
  split_in : (m : ℕ) (kind : Kind) → OnceIn kind → (n : ℕ) (ps : List ℕ) (l : ℕ) (qs : List ℕ) → loops_in m kind n ≡ ps ++ l ∷ qs
      → SplitIn m kind n l ps
  split_in m Leaf once n ps l qs e = absurd (none_split ps l qs e)
  split_in m (Scope g) once n ps l qs e =
      let h = split_of g once n ps l qs e in inner (around_has g n l h.contains) h.outer h.contains
  split_in m (Choice bs) once n ps l qs e = let h = split_any bs once n ps l qs e in inner (branch_has bs n l h.contains) h.outer h.contains
  split_in m (Foreach pace g) once n [] l qs e = itself (first_is e) refl
  split_in m (Foreach pace g) once n (p ∷ ps) l qs e =
      let h = split_of g once n ps l qs (rest_is e) in
      inner (around_has g n l h.contains) (ap (λ (xs : List ℕ). m ∷ xs) h.outer ∙ ap (λ (k : ℕ). k ∷ ps) (first_is e)) h.contains
  split_in m (Until most g) once n [] l qs e = itself (first_is e) refl
  split_in m (Until most g) once n (p ∷ ps) l qs e =
      let h = split_of g once n ps l qs (rest_is e) in
      inner (around_has g n l h.contains) (ap (λ (xs : List ℕ). m ∷ xs) h.outer ∙ ap (λ (k : ℕ). k ∷ ps) (first_is e)) h.contains

  split_any : (bs : Branches) → OnceAny bs → (n : ℕ) (ps : List ℕ) (l : ℕ) (qs : List ℕ) → loops_any bs n ≡ ps ++ l ∷ qs
      → Split (loops_any bs l) (around_any bs n) l ps
  split_any no_branch once n ps l qs e = absurd (none_split ps l qs e)
  split_any (branch b rest) once n ps l qs e = elim (two (has b n)) [
    | inl t ↦
        let h = split_of b once.1 n ps l qs (sym (when (has b n) (loops_of b n) (loops_any rest n) t) ∙ e) in record {
          outer = when (has b l) (loops_of b l) (loops_any rest l) (around_has b n l h.contains) ∙ h.outer;
          contains = subst (λ (xs : List ℕ). Among xs l) (sym (when (has b n) (around b n) (around_any rest n) t)) h.contains;
        }
    | inr f ↦
        let h = split_any rest once.2 n ps l qs (sym (unless (has b n) (loops_of b n) (loops_any rest n) f) ∙ e) in record {
          outer = elim (two (has b l)) [
            | inl u ↦ absurd (true≢false (sym (branch_has rest n l h.contains) ∙ once.0 l u))
            | inr v ↦ unless (has b l) (loops_of b l) (loops_any rest l) v ∙ h.outer
          ];
          contains = subst (λ (xs : List ℕ). Among xs l) (sym (unless (has b n) (around b n) (around_any rest n) f)) h.contains;
        }
  ]

  pub split_of : (g : Graph) → Once g → (n : ℕ) (ps : List ℕ) (l : ℕ) (qs : List ℕ) → loops_of g n ≡ ps ++ l ∷ qs
      → Split (loops_of g l) (around g n) l ps
  split_of done once n ps l qs e = absurd (none_split ps l qs e)
  split_of (add m after kind rest) once n ps l qs e = elim (two (holds kind n)) [
    | inl t ↦ elim (two (nat_eq m n)) [
      | inl same ↦ absurd (true≢false (sym t ∙ subst (λ (k : ℕ). holds kind k ≡ false) (eqb-true m n same) once.0))
      | inr other ↦
          let round = unless (nat_eq m n) [] (cond (holds kind n) (m ∷ around_in kind n) (around rest n)) other
          ∙ when (holds kind n) (m ∷ around_in kind n) (around rest n) t in
          elim (split_in m kind once.2 n ps l qs (sym (when (holds kind n) (loops_in m kind n) (loops_of rest n) t) ∙ e)) [
            | itself is none ↦ record {
              outer = subst (λ (k : ℕ). loops_of (add m after kind rest) k ≡ ps) is
                  (unless (holds kind m) (loops_in m kind m) (loops_of rest m) once.0
                  ∙ (loops_none rest m (once.1 m (or_first (nat_eq m m) (holds kind m) (same_self m))) ∙ sym none));
              contains = subst (λ (xs : List ℕ). Among xs l) (sym round) (inl is);
            }
            | inner held outer among ↦ record {
              outer = when (holds kind l) (loops_in m kind l) (loops_of rest l) held ∙ outer;
              contains = subst (λ (xs : List ℕ). Among xs l) (sym round) (inr among);
            }
          ]
    ]
    | inr f ↦
        let e' = sym (unless (holds kind n) (loops_in m kind n) (loops_of rest n) f) ∙ e in
        let h = split_of rest once.3 n ps l qs e' in
        let there = around_has rest n l h.contains in
        record {
          outer = elim (two (holds kind l)) [
            | inl u ↦ absurd (true≢false (sym there ∙ once.1 l (or_second (nat_eq m l) (holds kind l) u)))
            | inr v ↦ unless (holds kind l) (loops_in m kind l) (loops_of rest l) v ∙ h.outer
          ];
          contains = elim (two (nat_eq m n)) [
            | inl same ↦ absurd (none_split ps l qs (sym (loops_none rest n (once.1 n (or_first (nat_eq m n) (holds kind n) same))) ∙ e'))
            | inr other ↦ subst (λ (xs : List ℕ). Among xs l) (sym
                (unless (nat_eq m n) [] (cond (holds kind n) (m ∷ around_in kind n) (around rest n)) other
                ∙ unless (holds kind n) (m ∷ around_in kind n) (around rest n) f)) h.contains
          ];
        }
  ]
