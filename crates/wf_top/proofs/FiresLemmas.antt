-- What is listed from behind the year 9999 on.
use Rattle.std.proofs.Common.{◌≡◌, ◌∙◌, ℕ, zero, suc, ◌+◌, ◌-◌, ◌<◌, List, [], take, refl, ap, arith}
use Rattle.std.specs.List.{filter, range_with_len}
use Rattle.wf_fn_time.specs.Moments.{last_tick}
use Rattle.wf_recur.specs.Due.{start_or}
use Rattle.wf_recur.specs.Moments.{is_due, moments_due}
use Rattle.wf_recur.specs.declared.recurrence.Recurrence.{Recurrence}

abbrev nothing : List ℕ
nothing = []

take-none : (n : ℕ) → take n nothing ≡ nothing
take-none zero = refl
take-none (suc n) = refl

pub none-behind : (r : Recurrence) (from n : ℕ) → last_tick < from → moments_due r from n ≡ nothing
unfolding moments_due
none-behind r from n behind =
    let none : last_tick + 1 - from ≡ 0 = omega (arith, behind) in
    ap (λ k. take n (filter (is_due r (start_or r from)) (range_with_len from k))) none ∙ take-none n
