-- Timestamps: each optional part, each limit of each field, the first and the last moment.
use Rattle.std.proofs.Common.{◌≡◌, refl, Some, None, [], ◌∷◌}
use Rattle.std.specs.Prelude.{codes}
use Rattle.jiff_core.specs.Calendar.{days_of_months}
use Rattle.wf_fn_time.specs.Calendar.{days_of_first_years}
use Rattle.wf_fn_time.specs.Reading.{read_time}

reading-date : read_time (codes "0004-02-03") ≡ Some 974592000000000
unfolding days_of_first_years days_of_months
reading-date = refl

reading-first : read_time (codes "0001-01-01T00:00:00.0000000Z") ≡ Some 0
unfolding days_of_first_years days_of_months
reading-first = refl

reading-minutes : read_time (codes "0001-01-01T00:01") ≡ Some 600000000
unfolding days_of_first_years days_of_months
reading-minutes = refl

reading-seconds : read_time (codes "0001-01-01T00:00:01") ≡ Some 10000000
unfolding days_of_first_years days_of_months
reading-seconds = refl

reading-utc : read_time (codes "0001-01-01T01:00Z") ≡ Some 36000000000
unfolding days_of_first_years days_of_months
reading-utc = refl

reading-tenth : read_time (codes "0001-01-01T00:00:00.1Z") ≡ Some 1000000
unfolding days_of_first_years days_of_months
reading-tenth = refl

reading-hundredth : read_time (codes "0001-01-01T00:00:00.12") ≡ Some 1200000
unfolding days_of_first_years days_of_months
reading-hundredth = refl

reading-fraction : read_time (codes "0001-01-01T00:00:59.1234567") ≡ Some 591234567
unfolding days_of_first_years days_of_months
reading-fraction = refl

reading-last_of_day : read_time (codes "0001-01-01T23:59:59.9999999Z") ≡ Some 863999999999
unfolding days_of_first_years days_of_months
reading-last_of_day = refl

reading-east : read_time (codes "0001-01-02T02:00:00+02:00") ≡ Some 864000000000
unfolding days_of_first_years days_of_months
reading-east = refl

reading-west : read_time (codes "0001-01-01T20:00-05:30") ≡ Some 918000000000
unfolding days_of_first_years days_of_months
reading-west = refl

reading-furthest_east : read_time (codes "0001-01-02T00:00+14:59") ≡ Some 324600000000
unfolding days_of_first_years days_of_months
reading-furthest_east = refl

reading-furthest_west : read_time (codes "0001-01-01T00:00-14:59") ≡ Some 539400000000
unfolding days_of_first_years days_of_months
reading-furthest_west = refl

reading-west_of_nothing : read_time (codes "0001-01-01T00:00-00:00") ≡ Some 0
unfolding days_of_first_years days_of_months
reading-west_of_nothing = refl

reading-example : read_time (codes "2024-05-01T12:00:00Z") ≡ Some 638501616000000000
unfolding days_of_first_years days_of_months
reading-example = refl

reading-leap : read_time (codes "0004-02-29") ≡ Some 997056000000000
unfolding days_of_first_years days_of_months
reading-leap = refl

reading-last_of_year : read_time (codes "0001-12-31") ≡ Some 314496000000000
unfolding days_of_first_years days_of_months
reading-last_of_year = refl

reading-other_year : read_time (codes "0002-01-01") ≡ Some 315360000000000
unfolding days_of_first_years days_of_months
reading-other_year = refl

reading-leap_of_400 : read_time (codes "0400-02-29") ≡ Some 125962560000000000
unfolding days_of_first_years days_of_months
reading-leap_of_400 = refl

reading-last : read_time (codes "9999-12-31T23:59:59.9999999Z") ≡ Some 3155378975999999999
unfolding days_of_first_years days_of_months
reading-last = refl

reading-empty : read_time (codes "") ≡ None
reading-empty = refl

reading-no_date : read_time (codes "T00:00") ≡ None
reading-no_date = refl

reading-short_year : read_time (codes "204-05-01") ≡ None
reading-short_year = refl

reading-short_month : read_time (codes "2024-5-01") ≡ None
reading-short_month = refl

reading-short_day : read_time (codes "2024-05-1") ≡ None
reading-short_day = refl

reading-year_0 : read_time (codes "0000-01-01") ≡ None
reading-year_0 = refl

reading-month_0 : read_time (codes "2024-00-10") ≡ None
reading-month_0 = refl

reading-month_13 : read_time (codes "2024-13-01") ≡ None
reading-month_13 = refl

reading-day_0 : read_time (codes "2024-05-00") ≡ None
reading-day_0 = refl

reading-day_32 : read_time (codes "2024-01-32") ≡ None
reading-day_32 = refl

reading-day_31 : read_time (codes "2024-04-31") ≡ None
reading-day_31 = refl

reading-no_leap : read_time (codes "2023-02-29") ≡ None
reading-no_leap = refl

reading-no_leap_of_100 : read_time (codes "1900-02-29") ≡ None
reading-no_leap_of_100 = refl

reading-leap_30 : read_time (codes "2024-02-30") ≡ None
reading-leap_30 = refl

reading-blank : read_time (codes "2024-05-01 12:00") ≡ None
reading-blank = refl

reading-small_t : read_time (codes "2024-05-01t12:00") ≡ None
reading-small_t = refl

reading-no_time : read_time (codes "2024-05-01T") ≡ None
reading-no_time = refl

reading-hour_alone : read_time (codes "2024-05-01T12Z") ≡ None
reading-hour_alone = refl

reading-hour_24 : read_time (codes "2024-05-01T24:00") ≡ None
reading-hour_24 = refl

reading-minute_60 : read_time (codes "2024-05-01T12:60") ≡ None
reading-minute_60 = refl

reading-second_60 : read_time (codes "2024-05-01T12:00:60") ≡ None
reading-second_60 = refl

reading-no_fraction : read_time (codes "2024-05-01T12:00:00.Z") ≡ None
reading-no_fraction = refl

reading-eight_digits : read_time (codes "2024-05-01T12:00:00.12345678Z") ≡ None
reading-eight_digits = refl

reading-fraction_of_minute : read_time (codes "2024-05-01T12:00.5Z") ≡ None
reading-fraction_of_minute = refl

reading-small_z : read_time (codes "2024-05-01T12:00z") ≡ None
reading-small_z = refl

reading-zone_without_time : read_time (codes "2024-05-01Z") ≡ None
reading-zone_without_time = refl

reading-east_15 : read_time (codes "2024-05-01T12:00+15:00") ≡ None
reading-east_15 = refl

reading-east_60 : read_time (codes "2024-05-01T12:00+14:60") ≡ None
reading-east_60 = refl

reading-short_offset : read_time (codes "2024-05-01T12:00+2:00") ≡ None
reading-short_offset = refl

reading-offset_without_colon : read_time (codes "2024-05-01T12:00+0200") ≡ None
reading-offset_without_colon = refl

reading-more_behind : read_time (codes "2024-05-01T12:00:00Z ") ≡ None
reading-more_behind = refl

reading-blank_in_front : read_time (codes " 2024-05-01") ≡ None
reading-blank_in_front = refl

reading-before_year_1 : read_time (codes "0001-01-01T00:00+00:01") ≡ None
unfolding days_of_first_years days_of_months
reading-before_year_1 = refl

reading-behind_year_9999 : read_time (codes "9999-12-31T23:59:59.9999999-00:01") ≡ None
unfolding days_of_first_years days_of_months
reading-behind_year_9999 = refl

reading-other_digits : read_time (239 ∷ 188 ∷ 146 ∷ 48 ∷ 50 ∷ 52 ∷ 45 ∷ 48 ∷ 53 ∷ 45 ∷ 48 ∷ 49 ∷ []) ≡ None
reading-other_digits = refl
