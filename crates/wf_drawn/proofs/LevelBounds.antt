-- How deep levels get: one deeper with each action that is put, so that of a definition's actions none comes to the greatest u64.
use Rattle.std.proofs.Common.{ℕ, zero, suc, ◌+◌, ◌-◌, ◌*◌, ◌^◌, ◌<◌, ◌≤◌, List, [], ◌∷◌, length, replicate, slice_set, arith}
use Rattle.std.proofs.Math.Nat.{mul-le-mul_left, mul-le-mul_right}
use Rattle.wf_def.specs.ActionTree.{ActionTree, ActionTrees, action_after, action_number}
use Rattle.wf_def.specs.AllActions.{all_actions}
use Rattle.wf_def.specs.declared.after.After.{After}
use Rattle.wf_drawn.specs.Levels.{below_all, level_at, levels, put_all_below, put_below, rounds}

-- no level is deeper
abbrev pub AreWithin : ℕ → List ℕ → Type 0
AreWithin b ls = (n : ℕ) → level_at ls n ≤ b

below_within : (b : ℕ) (ls : List ℕ) (as' : List After) → AreWithin b ls → below_all ls as' ≤ suc b
below_within b ls [] within = omega arith
below_within b ls (a ∷ as') within = let here = within a.number in let rest = below_within b ls as' within in omega (arith, here, rest)

set_within : (b : ℕ) (ls : List ℕ) (i v : ℕ) → AreWithin b ls → v ≤ b → AreWithin b (slice_set ls i v)
set_within b [] zero v within deep n = within n
set_within b [] (suc i) v within deep n = within n
set_within b (l ∷ ls) zero v within deep zero = deep
set_within b (l ∷ ls) zero v within deep (suc n) = within (suc n)
set_within b (l ∷ ls) (suc i) v within deep zero = within 0
set_within b (l ∷ ls) (suc i) v within deep (suc n) = set_within b ls i v (λ m. within (suc m)) deep n

deeper : (b c : ℕ) (ls : List ℕ) → b ≤ c → AreWithin b ls → AreWithin c ls
deeper b c ls le within n = let here = within n in omega (arith, le, here)

put_within : (b : ℕ) (ls : List ℕ) (as' : List ActionTree) → AreWithin b ls → AreWithin (b + length as') (put_all_below ls as')
put_within b ls [] within = deeper b (b + 0) ls (omega arith) within
put_within b ls (a ∷ as') within =
    let one = set_within (suc b) ls (action_number a) (below_all ls (action_after a)) (deeper b (suc b) ls (omega arith) within)
    (below_within b ls (action_after a) within) in
    deeper (suc b + length as') (b + suc (length as')) _ (omega arith) (put_within (suc b) (put_below ls a) as' one)

rounds_within : (k : ℕ) (ls : List ℕ) (as' : List ActionTree) → AreWithin 0 ls → AreWithin (k * length as') (rounds k ls as')
rounds_within zero ls as' within = deeper 0 (0 * length as') ls (omega arith) within
rounds_within (suc k) ls as' within =
    deeper (k * length as' + length as') (suc k * length as') _ (omega arith)
    (put_within (k * length as') (rounds k ls as') as' (rounds_within k ls as' within))

top_within : (k : ℕ) → AreWithin 0 (replicate k 0)
top_within zero n = omega arith
top_within (suc k) zero = omega arith
top_within (suc k) (suc n) = top_within k n

-- numbers of four bytes have a product of eight
square_within : (m : ℕ) → m < 2 ^ 32 → m * m ≤ 2 ^ 64 - 2
square_within m few =
    let most : ℕ = 2 ^ 32 - 1 in
    let le : m ≤ most = omega (arith, few) in
    let one = mul-le-mul_right {m = m} {n = most} m le in
    let other = mul-le-mul_left {m = m} {n = most} most le in
    omega (arith, one, other)

pub levels_within : (g : ActionTrees) → length (all_actions g) < 2 ^ 32 → AreWithin (2 ^ 64 - 2) (levels g)
levels_within g few =
    let m : ℕ = length (all_actions g) in
    deeper (m * m) (2 ^ 64 - 2) (levels g) (square_within m few) (rounds_within m (replicate m 0) (all_actions g) (top_within m))
