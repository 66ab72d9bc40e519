-- The English names of months, from 1, and of days of the week, Sunday being 0.
use Rattle.std.specs.Prelude.{ℕ, List, codes, ◌==◌, if◌then◌else◌}

abbrev pub month_name : ℕ → List ℕ
month_name n =
    if n == 1 then codes "January" else (if n == 2 then codes "February" else (if n == 3 then codes "March" else
    (if n == 4 then codes "April"
    else (if n == 5 then codes "May" else (if n == 6 then codes "June" else (if n == 7 then codes "July" else (if n == 8 then codes "August"
    else (if n == 9 then codes "September" else (if n == 10 then codes "October"
    else (if n == 11 then codes "November" else codes "December"))))))))))

abbrev pub weekday_name : ℕ → List ℕ
weekday_name n =
    if n == 0 then codes "Sunday" else (if n == 1 then codes "Monday" else (if n == 2 then codes "Tuesday" else
    (if n == 3 then codes "Wednesday"
    else (if n == 4 then codes "Thursday" else (if n == 5 then codes "Friday" else codes "Saturday")))))

-- their abbreviations
abbrev pub month_abbreviation : ℕ → List ℕ
month_abbreviation n =
    if n == 1 then codes "Jan" else (if n == 2 then codes "Feb" else (if n == 3 then codes "Mar" else (if n == 4 then codes "Apr"
    else (if n == 5 then codes "May" else (if n == 6 then codes "Jun" else (if n == 7 then codes "Jul" else (if n == 8 then codes "Aug"
    else (if n == 9 then codes "Sep" else (if n == 10 then codes "Oct" else (if n == 11 then codes "Nov" else codes "Dec"))))))))))

abbrev pub weekday_abbreviation : ℕ → List ℕ
weekday_abbreviation n =
    if n == 0 then codes "Sun" else (if n == 1 then codes "Mon" else (if n == 2 then codes "Tue" else (if n == 3 then codes "Wed"
    else (if n == 4 then codes "Thu" else (if n == 5 then codes "Fri" else codes "Sat")))))
