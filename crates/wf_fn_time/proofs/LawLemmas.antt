-- Moves as sums, moves undone, and days of the week one after the other.
use Rattle.std.proofs.Common.{◌≡◌, ℕ, suc, ◌+◌, ◌-◌, ◌*◌, ◌≤◌, ◌<◌, ◌⊎◌, inl, inr, sym, ap, ◌∙◌, arith, Bool, true, false, cond, eqb, Some}
use Rattle.std.specs.Prelude.{ℤ, pos, negsuc, ◌+ℤ◌, ◌*ℤ◌, nat_le}
use Rattle.std.proofs.lemmas.Bool.{cond-true, cond-false, cases_lt}
use Rattle.std.proofs.lemmas.Bool.Decides.{nat_tests}
use Rattle.std.proofs.lemmas.Int.{ints}
use Rattle.wf_fn_time.specs.Calendar.{weekday}
use Rattle.wf_fn_time.specs.Laws.{IsSum, IsUndone, signed_moment}
use Rattle.wf_fn_time.specs.Moments.{last_tick, later, earlier, moment}
use Rattle.wf_fn_time.specs.declared.shift.Shift.{Shift}

back-enough : (t by : ℕ) → by ≤ t → earlier t by ≡ moment (t - by)
back-enough t by le = cond-true (nat_le by t) _ _ (grind (arith, nat_tests))

back-too_far : (t by : ℕ) → t < by → earlier t by ≡ signed_moment (negsuc (by - t - 1))
back-too_far t by lt = cond-false (nat_le by t) _ _ (grind (arith, nat_tests))

sum-back : (unit t n : ℕ) → (t < suc n * unit) ⊎ (suc n * unit ≤ t)
    → earlier t (suc n * unit) ≡ signed_moment (pos t +ℤ negsuc n *ℤ pos unit)
sum-back unit t n (inr le) =
    let z : pos t +ℤ negsuc n *ℤ pos unit ≡ pos (t - suc n * unit) = omega (arith, ints, le) in
    back-enough t (suc n * unit) le ∙ ap signed_moment (sym z)
sum-back unit t n (inl lt) =
    let z : pos t +ℤ negsuc n *ℤ pos unit ≡ negsuc (suc n * unit - t - 1) = omega (arith, ints, lt) in
    back-too_far t (suc n * unit) lt ∙ ap signed_moment (sym z)

pub sum : (unit t : ℕ) (n : ℤ) → t ≤ last_tick → IsSum unit n t
sum unit t (pos n) le = let z : pos t +ℤ pos n *ℤ pos unit ≡ pos (t + n * unit) = omega (arith, ints) in ap signed_moment (sym z)
sum unit t (negsuc n) le = sum-back unit t n (cases_lt t (suc n * unit))

undone-later : (t u by : ℕ) → t ≤ last_tick → later t by ≡ Some u → earlier u by ≡ Some t
undone-later t u by le e = grind (arith, nat_tests)

undone-earlier : (t u by : ℕ) → t ≤ last_tick → earlier t by ≡ Some u → later u by ≡ Some t
undone-earlier t u by le e = grind (arith, nat_tests)

undone-at : (back : Bool) (unit t u count : ℕ) → t ≤ last_tick → IsUndone unit (record { back = back; count = count }) t u
undone-at true unit t u count le e = undone-earlier t u (count * unit) le e
undone-at false unit t u count le e = undone-later t u (count * unit) le e

pub undone : (unit t u : ℕ) (s : Shift) → t ≤ last_tick → IsUndone unit s t u
undone unit t u s le = undone-at s.back unit t u s.count le

pub weekday-next : (n : ℕ) → weekday (suc n) ≡ cond (eqb (weekday n) 6) 0 (suc (weekday n))
weekday-next n = grind (arith, nat_tests)
