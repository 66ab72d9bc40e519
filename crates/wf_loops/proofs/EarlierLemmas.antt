-- What the definition of `earlier` says of instances is what the laws say: it is seen.
use Rattle.std.proofs.Common.{◌≡◌, ℕ, suc, Bool, true, false, ◌&&◌, cond, List, [], ◌∷◌, length, ◌⊎◌, inl, inr, refl, sym, ap, ◌∙◌}
use Rattle.std.proofs.Common.{true≢false, nat_eq}
use Rattle.std.specs.Prelude.{nat_lt}
use Rattle.wf_order.specs.Definition.{Pace, Kind, Leaf, Scope, Choice, Foreach, Until, Branches, no_branch, branch, Graph, done, add}
use Rattle.wf_order.specs.Definition.{holds, has, IsBefore}
use Rattle.wf_order.specs.Address.{Address, starts, SeenIn}
use Rattle.wf_order.specs.Seen.{Once}
use Rattle.wf_order.proofs.Basics.{two, and_of, when, unless, same_self}
use Rattle.wf_order.specs.Indexes.{HaveSameIndexes, loops_any, loops_in, loops_round}
use Rattle.wf_order.specs.Order.{Before}
use Rattle.wf_loops.specs.Loops.{is_earlier, is_in_turn, paces_any, paces_in, paces_round}
use Rattle.wf_loops.proofs.TurnLemmas.{both_of, turn_of}

-- ---- there is a pace for each loop round both

pick : (b : Bool) (ps qs : List Pace) (m n : ℕ) → length ps ≡ m → length qs ≡ n → length (cond b ps qs) ≡ cond b m n
pick true ps qs m n one other = one
pick false ps qs m n one other = other

mutual
  pub many_in : (kind : Kind) (x y : ℕ) → length (paces_in kind x y) ≡ loops_in kind x y
  many_in Leaf x y = refl
  many_in (Scope g) x y = many_of g x y
  many_in (Choice bs) x y = many_any bs x y
  many_in (Foreach pace g) x y = ap suc (many_of g x y)
  many_in (Until most g) x y = ap suc (many_of g x y)

  pub many_any : (bs : Branches) (x y : ℕ) → length (paces_any bs x y) ≡ loops_any bs x y
  many_any no_branch x y = refl
  many_any (branch b rest) x y = pick (has b x && has b y) (paces_round b x y) (paces_any rest x y) (loops_round b x y) (loops_any rest x y)
      (many_of b x y) (many_any rest x y)

  pub many_of : (g : Graph) (x y : ℕ) → length (paces_round g x y) ≡ loops_round g x y
  many_of done x y = refl
  many_of (add n after kind rest) x y =
      pick (holds kind x && holds kind y) (paces_in kind x y) (paces_round rest x y) (loops_in kind x y) (loops_round rest x y)
      (many_in kind x y) (many_of rest x y)

-- ---- where a difference decides, and where none does

record Alike (ps : List Pace) (is js : List ℕ) : Type 0 where
  pub front : List ℕ
  pub long : length front ≡ length ps
  pub of_one : starts front is ≡ true
  pub of_other : starts front js ≡ true

decided : (ps : List Pace) (is js : List ℕ) (b : Bool) → is_earlier ps is js b ≡ true
    → (is_earlier ps is js false ≡ true) ⊎ ((b ≡ true) × Alike ps is js)
decided [] is js b e = inr (e, record { front = []; long = refl; of_one = refl; of_other = refl })
decided (p ∷ ps) [] js b e = absurd (true≢false (sym e))
decided (p ∷ ps) (i ∷ is) [] b e = absurd (true≢false (sym e))
decided (p ∷ ps) (i ∷ is) (j ∷ js) b e = elim (two (nat_eq i j)) [
  | inl t ↦ elim (decided ps is js b (sym (when (nat_eq i j) (is_earlier ps is js b) (is_in_turn p && nat_lt i j) t) ∙ e)) [
    | inl h ↦ inl (when (nat_eq i j) (is_earlier ps is js false) (is_in_turn p && nat_lt i j) t ∙ h)
    | inr h ↦ inr (
      h.0,
      record {
        front = i ∷ h.1.front;
        long = ap suc h.1.long;
        of_one = and_of (nat_eq i i) (starts h.1.front is) (same_self i) h.1.of_one;
        of_other = and_of (nat_eq i j) (starts h.1.front js) t h.1.of_other;
      },
    )
  ]
  | inr f ↦ inl (unless (nat_eq i j) (is_earlier ps is js false) (is_in_turn p && nat_lt i j) f
      ∙ (sym (unless (nat_eq i j) (is_earlier ps is js b) (is_in_turn p && nat_lt i j) f) ∙ e))
]

-- THE LAW: `before` is what the tables of the order say, and `before_seen` the law on them.
pub earlier_seen : (g : Graph) → Once g → (x y : Address) (before : Bool)
    → (before ≡ true → Before g x.name y.name)
    → (Before g x.name y.name → HaveSameIndexes g x y → SeenIn g y x)
    → is_earlier (paces_round g x.name y.name) x.at y.at before ≡ true → SeenIn g y x
earlier_seen g once x y before exact before_seen e = elim (decided (paces_round g x.name y.name) x.at y.at before e) [
  | inl h ↦ (
    and_of (has g x.name) true (both_of g x.name y.name x.at y.at h).0 refl,
    inr (turn_of (IsBefore g) g x y [] x.at y.at once refl refl h),
  )
  | inr h ↦ before_seen (exact h.0) (record {
    indexes = h.1.front;
    each_loop = h.1.long ∙ many_of g x.name y.name;
    of_one = h.1.of_one;
    of_other = h.1.of_other;
  })
]
