-- Worked durations, and texts that are none.
use Rattle.std.proofs.Common.{◌≡◌, true, false, refl}
use Rattle.std.specs.Prelude.{codes}
use Rattle.wf_retry.specs.Duration.{is_duration}

-- durations
duration-days : is_duration (codes "P1D") ≡ true
duration-days = refl

duration-day-of_no_length : is_duration (codes "P0D") ≡ true
duration-day-of_no_length = refl

duration-time-of_no_length : is_duration (codes "PT0S") ≡ true
duration-time-of_no_length = refl

duration-hours : is_duration (codes "PT1H") ≡ true
duration-hours = refl

duration-minutes : is_duration (codes "PT30M") ≡ true
duration-minutes = refl

duration-seconds : is_duration (codes "PT5S") ≡ true
duration-seconds = refl

duration-hours_and_minutes : is_duration (codes "PT1H30M") ≡ true
duration-hours_and_minutes = refl

duration-hours_and_seconds : is_duration (codes "PT1H5S") ≡ true
duration-hours_and_seconds = refl

duration-minutes_and_seconds : is_duration (codes "PT1M5S") ≡ true
duration-minutes_and_seconds = refl

duration-all_of_a_day : is_duration (codes "PT1H2M3S") ≡ true
duration-all_of_a_day = refl

duration-all : is_duration (codes "P1DT2H3M4S") ≡ true
duration-all = refl

duration-days_and_minutes : is_duration (codes "P1DT1M") ≡ true
duration-days_and_minutes = refl

duration-leading_noughts : is_duration (codes "PT007S") ≡ true
duration-leading_noughts = refl

duration-nine_digits : is_duration (codes "PT999999999S") ≡ true
duration-nine_digits = refl

duration-nine_digits-everywhere : is_duration (codes "P123456789DT123456789H123456789M123456789S") ≡ true
duration-nine_digits-everywhere = refl

-- and none
none-nothing : is_duration (codes "") ≡ false
none-nothing = refl

none-letter_alone : is_duration (codes "P") ≡ false
none-letter_alone = refl

none-time_without_parts : is_duration (codes "PT") ≡ false
none-time_without_parts = refl

none-days_and_time_without_parts : is_duration (codes "P1DT") ≡ false
none-days_and_time_without_parts = refl

none-number_without_a_letter : is_duration (codes "P1") ≡ false
none-number_without_a_letter = refl

none-number_without_a_letter-in_a_time : is_duration (codes "PT1") ≡ false
none-number_without_a_letter-in_a_time = refl

none-letter_without_a_number : is_duration (codes "PD") ≡ false
none-letter_without_a_number = refl

none-letter_without_a_number-in_a_time : is_duration (codes "PTS") ≡ false
none-letter_without_a_number-in_a_time = refl

none-ten_digits : is_duration (codes "PT1234567890S") ≡ false
none-ten_digits = refl

none-ten_digits-of_days : is_duration (codes "P1234567890D") ≡ false
none-ten_digits-of_days = refl

none-ten_noughts : is_duration (codes "PT0000000000S") ≡ false
none-ten_noughts = refl

none-minutes_before_hours : is_duration (codes "PT1M1H") ≡ false
none-minutes_before_hours = refl

none-seconds_before_minutes : is_duration (codes "PT1S1M") ≡ false
none-seconds_before_minutes = refl

none-seconds_before_hours : is_duration (codes "PT1S1H") ≡ false
none-seconds_before_hours = refl

none-time_before_days : is_duration (codes "PT1H1D") ≡ false
none-time_before_days = refl

none-hours_without_a_t : is_duration (codes "P1H") ≡ false
none-hours_without_a_t = refl

none-days_in_a_time : is_duration (codes "PT1D") ≡ false
none-days_in_a_time = refl

none-hours_twice : is_duration (codes "PT1H2H") ≡ false
none-hours_twice = refl

none-days_twice : is_duration (codes "P1D2D") ≡ false
none-days_twice = refl

none-t_twice : is_duration (codes "PT1HT1M") ≡ false
none-t_twice = refl

none-weeks : is_duration (codes "P1W") ≡ false
none-weeks = refl

none-months : is_duration (codes "P1M") ≡ false
none-months = refl

none-years : is_duration (codes "P1Y") ≡ false
none-years = refl

none-lower_case : is_duration (codes "pt1s") ≡ false
none-lower_case = refl

none-lower_letter : is_duration (codes "PT1s") ≡ false
none-lower_letter = refl

none-lower_t : is_duration (codes "Pt1S") ≡ false
none-lower_t = refl

none-fraction : is_duration (codes "PT1.5S") ≡ false
none-fraction = refl

none-fraction-with_a_comma : is_duration (codes "PT1,5S") ≡ false
none-fraction-with_a_comma = refl

none-sign : is_duration (codes "-PT1S") ≡ false
none-sign = refl

none-sign-of_a_part : is_duration (codes "PT-1S") ≡ false
none-sign-of_a_part = refl

none-plus : is_duration (codes "PT+1S") ≡ false
none-plus = refl

none-blank_before : is_duration (codes " PT1S") ≡ false
none-blank_before = refl

none-blank_behind : is_duration (codes "PT1S ") ≡ false
none-blank_behind = refl

none-blank_inside : is_duration (codes "PT 1S") ≡ false
none-blank_inside = refl

none-no_p : is_duration (codes "T1S") ≡ false
none-no_p = refl

none-byte_below_nought : is_duration (codes "PT/S") ≡ false
none-byte_below_nought = refl

none-byte_above_nine : is_duration (codes "PT:S") ≡ false
none-byte_above_nine = refl

none-time_of_a_clock : is_duration (codes "00:00:01") ≡ false
none-time_of_a_clock = refl
