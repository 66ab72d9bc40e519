-- The actions of a graph are as many as the numbers below their bound that are theirs, where each number stands once.
use Rattle.std.proofs.Common.{◌≡◌, ℕ, suc, ◌+◌, ◌≤◌, ◌<◌, Bool, true, false, ◌||◌, cond, List, [], ◌∷◌, length, nat_eq, inl, inr}
use Rattle.std.proofs.Common.{length-append, count_by, flat_map, refl, sym, ap, ◌∙◌, subst, true≢false, arith}
use Rattle.std.proofs.lemmas.List.Sums.{sum_by-cons}
use Rattle.wf_layers.specs.Definition.{Graph, done, add, has, has_own, holds}
use Rattle.wf_layers.specs.Listed.{Among}
use Rattle.wf_layers.specs.Seen.{Once}
use Rattle.wf_layers.proofs.Basics.{or_first, or_second, same_self}
use Rattle.wf_layers.proofs.Waiting.{own_has}
use Rattle.wf_meant_laws.specs.References.{upto}
use Rattle.wf_meant_laws.proofs.ListLemmas.{in_upto}

abbrev pub size : Graph → ℕ
size done = 0
size (add n after kind rest) = suc (size rest)

abbrev one_if : Bool → ℕ
one_if b = cond b 1 0

-- ---- counts

count_then : (p : ℕ → Bool) (n : ℕ) (ns : List ℕ) → count_by p (n ∷ ns) ≡ one_if (p n) + count_by p ns
count_then p n ns = sum_by-cons (λ x. one_if (p x)) n ns

is_one : (b : Bool) → b ≡ true → one_if b ≡ 1
is_one true is = refl
is_one false is = absurd (true≢false (sym is))

counted : (p : ℕ → Bool) (ns : List ℕ) (n : ℕ) → Among ns n → p n ≡ true → 1 ≤ count_by p ns
counted p [] n there is = absurd there
counted p (m ∷ ns) n (inl same) is = omega (arith, count_then p m ns, is_one (p m) (ap p same ∙ is))
counted p (m ∷ ns) n (inr later) is = omega (arith, count_then p m ns, counted p ns n later is)

-- two tests that never hold both are met at most as often as a third that holds wherever one of them does
count_both : (p q r : ℕ → Bool) → ((n : ℕ) → one_if (p n) + one_if (q n) ≤ one_if (r n)) → (ns : List ℕ)
    → count_by p ns + count_by q ns ≤ count_by r ns
count_both p q r each [] = omega arith
count_both p q r each (n ∷ ns) =
    omega (arith, count_then p n ns, count_then q n ns, count_then r n ns, each n, count_both p q r each ns)

-- ---- the actions of a graph

either_one : (a b : Bool) → (a ≡ true → b ≡ false) → one_if a + one_if b ≤ one_if (a || b)
either_one true true apart = absurd (true≢false (apart refl))
either_one true false apart = omega arith
either_one false true apart = omega arith
either_one false false apart = omega arith

not_own : (b : Bool) (g : Graph) (n : ℕ) → has_own g n ≡ b → has g n ≡ false → b ≡ false
not_own true g n own none = absurd (true≢false (sym (own_has g n own) ∙ none))
not_own false g n own none = refl

pub as_many : (g : Graph) (top : ℕ) → Once g → ((n : ℕ) → has_own g n ≡ true → n < top) → size g ≤ count_by (has_own g) (upto top)
as_many done top once below = omega arith
as_many (add n after kind rest) top once below =
    omega (
      arith,
      as_many rest top once.3 (λ m own. below m (or_second (nat_eq n m) (has_own rest m) own)),
      this,
      count_both (nat_eq n) (has_own rest) (has_own (add n after kind rest)) apart (upto top),
    )
  where
    this : 1 ≤ count_by (nat_eq n) (upto top)
    this = counted (nat_eq n) (upto top) n (in_upto top n (below n (or_first (nat_eq n n) (has_own rest n) (same_self n)))) (same_self n)

    apart : (m : ℕ) → one_if (nat_eq n m) + one_if (has_own rest m) ≤ one_if (nat_eq n m || has_own rest m)
    apart m =
        either_one (nat_eq n m) (has_own rest m)
        (λ is. not_own (has_own rest m) rest m refl (once.1 m (or_first (nat_eq n m) (holds kind m) is)))

-- ---- lists that are joined

pub at_least : {X : Type 0} (f : ℕ → List X) (p : ℕ → Bool) → ((n : ℕ) → p n ≡ true → 1 ≤ length (f n)) → (ns : List ℕ)
    → count_by p ns ≤ length (flat_map f ns)
at_least f p each [] = omega arith
at_least f p each (n ∷ ns) =
    omega (arith, count_then p n ns, length-append (f n) (flat_map f ns), at_least f p each ns, one (p n) refl)
  where
    one : (b : Bool) → p n ≡ b → one_if (p n) ≤ length (f n)
    one true is = omega (arith, is_one (p n) is, each n is)
    one false is = subst (λ (c : Bool). one_if c ≤ length (f n)) (sym is) (omega arith)
