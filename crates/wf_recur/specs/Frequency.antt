-- The units in which a recurrence counts, by their names.
use Rattle.std.specs.Prelude.{ℕ, List, Option, Some, None, codes, if◌then◌else◌}
use Rattle.std.specs.Str.{str_eq_ignore_ascii_case}
use Rattle.wf_recur.specs.declared.frequency.Frequency.{Frequency}

-- the frequency that a text names, without the case of ASCII letters
abbrev pub frequency_of : List ℕ → Option Frequency
frequency_of s =
    if str_eq_ignore_ascii_case s (codes "Second") then Some Frequency.Second
    else (if str_eq_ignore_ascii_case s (codes "Minute") then Some Frequency.Minute
    else (if str_eq_ignore_ascii_case s (codes "Hour") then Some Frequency.Hour
    else (if str_eq_ignore_ascii_case s (codes "Day") then Some Frequency.Day
    else (if str_eq_ignore_ascii_case s (codes "Week") then Some Frequency.Week
    else (if str_eq_ignore_ascii_case s (codes "Month") then Some Frequency.Month else None)))))
