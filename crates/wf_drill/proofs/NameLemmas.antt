-- The names of calls stand in their order, between `F` and `J`.
use Rattle.std.proofs.Common.{◌≡◌, ℕ, zero, suc, ◌+◌, ◌/◌, ◌%◌, ◌<◌, ◌≤◌, List, [], ◌∷◌, ◌++◌, refl, arith, codes}
use Rattle.std.proofs.lemmas.Cmp.{ranked}
use Rattle.std.specs.List.{AllByRecursion}
use Rattle.std.specs.declared.cmp.Ordering.{Ordering}
use Rattle.std.specs.declared.cmp.Ordering.TheVariants.{Less, Equal, Greater}
use Rattle.std.specs.Ordering.{nat_cmp, ordering_then}
use Rattle.wf_val.specs.Get.{name_of}
use Rattle.wf_val.specs.NameOrder.{IsAboveAll, bytes_cmp}
use Rattle.wf_val.specs.ValueTree.{ValueTree, Member}
use Rattle.wf_drill.specs.Calls.{call_name, each_call}

pub all-append : (P : Member → Type 0) (xs : List Member) (y : Member) → AllByRecursion P xs → P y → AllByRecursion P (xs ++ y ∷ [])
all-append P [] y all holds = (holds, tt)
all-append P (x ∷ xs) y all holds = (all.0, all-append P xs y all.1 holds)

-- three digits are less where the first that differs is
module _ (a x b y c z : ℕ) where
  last_less : (q : Ordering) → q ≡ nat_cmp c z → c < z → ordering_then q Equal ≡ Less
  last_less Less is less = refl
  last_less Equal is less = absurd (omega (arith, ranked c z Equal is, less))
  last_less Greater is less = absurd (omega (arith, ranked c z Greater is, less))

  next_less : (p : Ordering) → p ≡ nat_cmp b y → b ≤ y → (b ≡ y → c < z) → ordering_then p (ordering_then (nat_cmp c z) Equal) ≡ Less
  next_less Less is le less = refl
  next_less Equal is le less = last_less (nat_cmp c z) refl (less (ranked b y Equal is))
  next_less Greater is le less = absurd (omega (arith, ranked b y Greater is, le))

  first_less : (o : Ordering) → o ≡ nat_cmp a x → a ≤ x → (a ≡ x → b ≤ y) → (a ≡ x → b ≡ y → c < z)
      → ordering_then o (ordering_then (nat_cmp b y) (ordering_then (nat_cmp c z) Equal)) ≡ Less
  first_less Less is le next less = refl
  first_less Equal is le next less =
      let same = ranked a x Equal is in next_less (nat_cmp b y) refl (next same) (less same)
  first_less Greater is le next less = absurd (omega (arith, ranked a x Greater is, le))

pub names_rise : (j k : ℕ) → j < k → k < 1000 → bytes_cmp (call_name j) (call_name k) ≡ Less
names_rise j k below small =
    first_less (48 + j / 100) (48 + k / 100) (48 + j / 10 % 10) (48 + k / 10 % 10) (48 + j % 10) (48 + k % 10)
    (nat_cmp (48 + j / 100) (48 + k / 100)) refl (omega (arith, below)) (λ same. omega (arith, below, same))
    (λ same next. omega (arith, below, same, next))

-- a call's name is above those of the calls before it
calls_below : (value : ValueTree) (n k : ℕ) → n ≤ k → k < 1000 → IsAboveAll name_of (call_name k) (each_call value n)
calls_below value zero k le small = tt
calls_below value (suc n) k le small =
    all-append (λ x. bytes_cmp (name_of x) (call_name k) ≡ Less) (each_call value n) (call_name n, value)
    (calls_below value n k (omega (arith, le)) small) (names_rise n k (omega (arith, le)) small)

pub above_calls : (first value : ValueTree) (k : ℕ) → k < 1000
    → IsAboveAll name_of (call_name k) ((codes "F", first) ∷ each_call value k)
above_calls first value k small = (refl, calls_below value k k (omega arith) small)

-- `J` is above all of them, and `Seed` above that
below_join : (value : ValueTree) (n : ℕ) → IsAboveAll name_of (codes "J") (each_call value n)
below_join value zero = tt
below_join value (suc n) =
    all-append (λ x. bytes_cmp (name_of x) (codes "J") ≡ Less) (each_call value n) (call_name n, value) (below_join value n) refl

below_seed : (value : ValueTree) (n : ℕ) → IsAboveAll name_of (codes "Seed") (each_call value n)
below_seed value zero = tt
below_seed value (suc n) =
    all-append (λ x. bytes_cmp (name_of x) (codes "Seed") ≡ Less) (each_call value n) (call_name n, value) (below_seed value n) refl

pub join_above : (first value : ValueTree) (n : ℕ) → IsAboveAll name_of (codes "J") ((codes "F", first) ∷ each_call value n)
join_above first value n = (refl, below_join value n)

pub seed_above : (first value last : ValueTree) (n : ℕ)
    → IsAboveAll name_of (codes "Seed") (((codes "F", first) ∷ each_call value n) ++ (codes "J", last) ∷ [])
seed_above first value last n =
    (refl, all-append (λ x. bytes_cmp (name_of x) (codes "Seed") ≡ Less) (each_call value n) (codes "J", last) (below_seed value n) refl)
