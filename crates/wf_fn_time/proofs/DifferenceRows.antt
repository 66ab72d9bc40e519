-- Rows of the function dateDifference.
use lib.Utf8.{encode}
use Rattle.std.proofs.Common.{◌≡◌, refl, [], ◌∷◌, Ok, Err}
use Rattle.std.specs.Str.{chars}
use Rattle.jiff_core.specs.Calendar.{days_of_months}
use Rattle.wf_fn_time.specs.Calendar.{day_at, days_of_first_years}
use Rattle.std.specs.Fmt.{digits}
use Rattle.wf_fn_time.specs.Difference.{date_difference_row}
use Rattle.wf_val.proofs.RowValues.{plus, word}
use Rattle.wf_val.specs.ValueTree.{null}
use Rattle.wf_val.specs.declared.fault.EvalFault.{EvalFault}
use Rattle.wf_val.specs.declared.function.Fun.{Fun}

date_difference-example : date_difference_row (word "2015-02-08" ∷ word "2018-07-30" ∷ []) ≡ Ok (word "1268.00:00:00")
unfolding chars encode digits day_at days_of_first_years days_of_months
date_difference-example = refl

date_difference-none : date_difference_row (word "0001-01-01" ∷ word "0001-01-01T00:00Z" ∷ []) ≡ Ok (word "00:00:00")
unfolding chars encode digits day_at days_of_first_years days_of_months
date_difference-none = refl

date_difference-tick : date_difference_row (word "0001-01-01" ∷ word "0001-01-01T00:00:00.0000001Z" ∷ []) ≡ Ok (word "00:00:00.0000001")
unfolding chars encode digits day_at days_of_first_years days_of_months
date_difference-tick = refl

date_difference-negative_tick : date_difference_row (word "0001-01-01T00:00:00.5Z" ∷ word "0001-01-01" ∷ []) ≡ Ok (word "-00:00:00.5000000")
unfolding chars encode digits day_at days_of_first_years days_of_months
date_difference-negative_tick = refl

date_difference-clock : date_difference_row (word "0001-01-01" ∷ word "0001-01-01T23:59:59Z" ∷ []) ≡ Ok (word "23:59:59")
unfolding chars encode digits day_at days_of_first_years days_of_months
date_difference-clock = refl

date_difference-day : date_difference_row (word "0001-01-01" ∷ word "0001-01-02" ∷ []) ≡ Ok (word "1.00:00:00")
unfolding chars encode digits day_at days_of_first_years days_of_months
date_difference-day = refl

date_difference-days_back : date_difference_row (word "0001-01-12T01:00Z" ∷ word "0001-01-01" ∷ []) ≡ Ok (word "-11.01:00:00")
unfolding chars encode digits day_at days_of_first_years days_of_months
date_difference-days_back = refl

date_difference-offsets : date_difference_row (word "0001-01-02T00:00:00+01:00" ∷ word "0001-01-02T00:00:00-01:00" ∷ [])
    ≡ Ok (word "02:00:00")
unfolding chars encode digits day_at days_of_first_years days_of_months
date_difference-offsets = refl

date_difference-longest : date_difference_row (word "0001-01-01" ∷ word "9999-12-31T23:59:59.9999999Z" ∷ [])
    ≡ Ok (word "3652058.23:59:59.9999999")
unfolding chars encode digits day_at days_of_first_years days_of_months
date_difference-longest = refl

date_difference-longest_back : date_difference_row (word "9999-12-31T23:59:59.9999999Z" ∷ word "0001-01-01" ∷ [])
    ≡ Ok (word "-3652058.23:59:59.9999999")
unfolding chars encode digits day_at days_of_first_years days_of_months
date_difference-longest_back = refl

date_difference-first_no_timestamp : date_difference_row (word "x" ∷ word "0001-01-01" ∷ []) ≡ Err (EvalFault.BadText Fun.DateDifference)
unfolding chars encode digits day_at days_of_first_years days_of_months
date_difference-first_no_timestamp = refl

date_difference-second_no_timestamp : date_difference_row (word "0001-01-01" ∷ word "x" ∷ []) ≡ Err (EvalFault.BadText Fun.DateDifference)
unfolding chars encode digits day_at days_of_first_years days_of_months
date_difference-second_no_timestamp = refl

date_difference-types_first : date_difference_row (word "x" ∷ plus 1 ∷ []) ≡ Err (EvalFault.WrongType Fun.DateDifference 2)
unfolding chars encode digits day_at days_of_first_years days_of_months
date_difference-types_first = refl

date_difference-number : date_difference_row (plus 1 ∷ null ∷ []) ≡ Err (EvalFault.WrongType Fun.DateDifference 1)
unfolding chars encode digits day_at days_of_first_years days_of_months
date_difference-number = refl
