-- The numbers on lines.
use Rattle.std.proofs.Common.{◌≡◌, ℕ, suc, ◌+◌, ◌-◌, ◌*◌, ◌<◌, ◌≤◌, ◌++◌, Bool, true, false, cond, List, [], ◌∷◌, length}
use Rattle.std.proofs.Common.{Option, Some, None, Result, Ok, Err, nat_le, refl, sym, ap, ◌∙◌, subst, append_assoc, append-nil, arith}
use Rattle.std.proofs.lemmas.Bool.Decides.{nat_tests}
use Rattle.std.proofs.lemmas.Option.{none-some}
use Rattle.wf_lines.specs.Lines.{lines_of, without_return}
use Rattle.wf_schedule.specs.Reading.{behind, digit_then}
use Rattle.wf_schedule.specs.Schedule.{digits_from, is_digit, number_of, number_then, numbers_from, small}
use Rattle.wf_schedule.specs.declared.fault.ScheduleFault.{ScheduleFault}

-- ---- numbers

none_either : (digit : Bool) (r : Option ℕ) → small r ≡ None → small (cond digit r None) ≡ None
none_either true r none = none
none_either false r none = refl

-- too large a number stays so
too_large : (n : ℕ) (line : List ℕ) → 4294967295 < n → small (digits_from n line) ≡ None
too_large n [] lt = grind (arith, nat_tests, lt)
too_large n (b ∷ line) lt = none_either (is_digit b) (digits_from (10 * n + (b - 48)) line)
    (too_large (10 * n + (b - 48)) line (omega (arith, lt)))

-- a digit more, or none
bounded : (m : ℕ) (e : Bool) → nat_le m 4294967295 ≡ e → (line : List ℕ) → cond e (Some m) None ≡ None → small (digits_from m line) ≡ None
bounded m true is line none = absurd (none-some m (sym none))
bounded m false is line none = too_large m line (grind (arith, nat_tests, is))

no_more : (m : ℕ) (digit : Bool) (line : List ℕ) → small (cond digit (Some m) None) ≡ None
    → small (cond digit (digits_from m line) None) ≡ None
no_more m true line none = bounded m (nat_le m 4294967295) refl line none
no_more m false line none = refl

pub none_more : (n b : ℕ) (line : List ℕ) → digit_then n b ≡ None → small (digits_from n (b ∷ line)) ≡ None
none_more n b line none = no_more (10 * n + (b - 48)) (is_digit b) line none

same_number : (m k : ℕ) (e : Bool) → cond e (Some m) None ≡ Some k → m ≡ k
same_number m k true is = cc
same_number m k false is = absurd (none-some k is)

one_number : (m k : ℕ) (digit : Bool) (line : List ℕ) → small (cond digit (Some m) None) ≡ Some k
    → small (cond digit (digits_from m line) None) ≡ small (digits_from k line)
one_number m k true line is = ap (λ j. small (digits_from j line)) (same_number m k (nat_le m 4294967295) is)
one_number m k false line is = absurd (none-some k is)

pub some_more : (n b k : ℕ) (line : List ℕ) → digit_then n b ≡ Some k → small (digits_from n (b ∷ line)) ≡ small (digits_from k line)
some_more n b k line is = one_number (10 * n + (b - 48)) k (is_digit b) line is

within_by : (m k : ℕ) (e : Bool) → nat_le m 4294967295 ≡ e → cond e (Some m) None ≡ Some k → k ≤ 4294967295
within_by m k true le is = subst (λ j. j ≤ 4294967295) (same_number m k true is) (grind (arith, nat_tests, le))
within_by m k false le is = absurd (none-some k is)

small_within : (o : Option ℕ) (k : ℕ) → small o ≡ Some k → k ≤ 4294967295
small_within None k is = absurd (none-some k is)
small_within (Some m) k is = within_by m k (nat_le m 4294967295) refl is

pub more_within : (n b k : ℕ) → digit_then n b ≡ Some k → k ≤ 4294967295
more_within n b k is = small_within (cond (is_digit b) (Some (10 * n + (b - 48))) None) k is

pub none_behind : (r : Result (List ℕ) ScheduleFault) → behind [] r ≡ r
none_behind (Ok ms) = refl
none_behind (Err f) = refl

one_behind : (ns : List ℕ) (k n : ℕ) (r : Result (List ℕ) ScheduleFault) → behind ns (number_then k (Some n) r) ≡ behind (ns ++ n ∷ []) r
one_behind ns k n (Ok ms) = ap (λ xs. Ok xs) (sym (append_assoc ns (n ∷ []) ms))
one_behind ns k n (Err f) = refl

-- one line is read
pub read_one : (ns rest more first : List ℕ) (k n : ℕ) → lines_of rest ≡ first ∷ lines_of more → number_of (without_return first) ≡ Some n
    → behind ns (numbers_from k (lines_of rest)) ≡ behind (ns ++ n ∷ []) (numbers_from (k + 1) (lines_of more))
read_one ns rest more first k n split is =
    rw (split, is) (one_behind ns k n (numbers_from (suc k) (lines_of more))
    ∙ ap (λ m. behind (ns ++ n ∷ []) (numbers_from m (lines_of more))) next)
  where
    next : suc k ≡ k + 1
    next = omega arith

-- a line that is no number
pub read_bad : (ns rest more first : List ℕ) (k : ℕ) → lines_of rest ≡ first ∷ lines_of more → number_of (without_return first) ≡ None
    → behind ns (numbers_from k (lines_of rest)) ≡ Err (ScheduleFault.Line k)
read_bad ns rest more first k split is = rw (split, is) refl

-- no line is left
pub read_all : (ns rest : List ℕ) (k : ℕ) → length rest ≡ 0 → behind ns (numbers_from k (lines_of rest)) ≡ Ok ns
read_all ns [] k none = ap (λ xs. Ok xs) (append-nil ns)
read_all ns (b ∷ rest) k none = absurd (omega (arith, none))
