-- What a value in a recurrence says; none where it isn't what is asked for.
use Rattle.std.specs.Prelude.{ℕ, ◌+◌, ◌-◌, ◌*◌, pos, Bool, true, false, ◌&&◌, List, [], ◌∷◌, Option, Some, None, nat_lt, codes}
use Rattle.std.specs.Prelude.{if◌then◌else◌}
use Rattle.std.specs.Char.{is_ascii_digit}
use Rattle.std.specs.Str.{str_eq_ignore_ascii_case}
use Rattle.wf_fn_time.specs.Reading.{read_time}
use Rattle.wf_val.specs.ValueTree.{ValueTree, number, text, list}
use Rattle.wf_recur.specs.Frequency.{frequency_of}
use Rattle.wf_recur.specs.Interval.{interval_of}
use Rattle.wf_recur.specs.declared.frequency.Frequency.{Frequency}
use Rattle.wf_recur.specs.declared.part.Part.{Part}

abbrev pub is_text : ValueTree → Bool
is_text (text s) = true
is_text t = false

abbrev pub is_list : ValueTree → Bool
is_list (list ts) = true
is_list t = false

abbrev pub frequency_in : ValueTree → Option Frequency
frequency_in (text s) = frequency_of s
frequency_in t = None

abbrev pub interval_in : ValueTree → Option ℕ
interval_in (number n) = interval_of n
interval_in t = None

-- the moment of a timestamp
abbrev pub moment_in : ValueTree → Option ℕ
moment_in (text s) = read_time s
moment_in t = None

-- one or two digits
abbrev pub short_number : List ℕ → Option ℕ
short_number (a ∷ []) = if is_ascii_digit a then Some (a - 48) else None
short_number (a ∷ b ∷ []) = if is_ascii_digit a && is_ascii_digit b then Some ((a - 48) * 10 + (b - 48)) else None
short_number s = None

-- a number, or a text of one or two digits
abbrev pub number_in : ValueTree → Option ℕ
number_in (number (pos n)) = Some n
number_in (text s) = short_number s
number_in t = None

abbrev pub below : ℕ → Option ℕ → Option ℕ
below end (Some n) = if nat_lt n end then Some n else None
below end None = None

-- the English names of weekdays, without the case of letters
abbrev pub weekday_of : List ℕ → Option ℕ
weekday_of s =
    if str_eq_ignore_ascii_case s (codes "Sunday") then Some 0
    else (if str_eq_ignore_ascii_case s (codes "Monday") then Some 1
    else (if str_eq_ignore_ascii_case s (codes "Tuesday") then Some 2
    else (if str_eq_ignore_ascii_case s (codes "Wednesday") then Some 3
    else (if str_eq_ignore_ascii_case s (codes "Thursday") then Some 4
    else (if str_eq_ignore_ascii_case s (codes "Friday") then Some 5
    else (if str_eq_ignore_ascii_case s (codes "Saturday") then Some 6 else None))))))

abbrev pub weekday_in : ValueTree → Option ℕ
weekday_in (text s) = weekday_of s
weekday_in t = None

-- the place of an hour in the day, of a minute in the hour, of a weekday in the week
abbrev pub place_in : Part → ValueTree → Option ℕ
place_in Part.Hour t = below 24 (number_in t)
place_in Part.Minute t = below 60 (number_in t)
place_in Part.WeekDay t = weekday_in t
place_in part t = None
