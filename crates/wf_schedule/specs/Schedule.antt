-- Which schedule a file of lines spells: on each line a number, in one to ten decimal digits.
use Rattle.std.specs.Prelude.{ℕ, suc, ◌+◌, ◌-◌, ◌*◌, Bool, ◌&&◌, List, [], ◌∷◌, length, Option, None, Some, Result, Ok, Err}
use Rattle.std.specs.Prelude.{cond, nat_le}
use Rattle.wf_lines.specs.Lines.{lines_of, without_return}
use Rattle.wf_schedule.specs.declared.fault.ScheduleFault.{ScheduleFault}

abbrev pub is_digit : ℕ → Bool
is_digit b = nat_le 48 b && nat_le b 57

-- what digits come to, behind those that come to n
abbrev pub digits_from : ℕ → List ℕ → Option ℕ
digits_from n [] = Some n
digits_from n (b ∷ line) = cond (is_digit b) (digits_from (10 * n + (b - 48)) line) None

-- a number of the schedule is at most 4,294,967,295
abbrev pub small : Option ℕ → Option ℕ
small None = None
small (Some n) = cond (nat_le n 4294967295) (Some n) None

abbrev pub number_of : List ℕ → Option ℕ
number_of line = cond (nat_le 1 (length line) && nat_le (length line) 10) (small (digits_from 0 line)) None

-- a number before those of the lines that follow
abbrev pub number_then : ℕ → Option ℕ → Result (List ℕ) ScheduleFault → Result (List ℕ) ScheduleFault
number_then line None rest = Err (ScheduleFault.Line line)
number_then line (Some n) (Err f) = Err f
number_then line (Some n) (Ok ns) = Ok (n ∷ ns)

-- the numbers of lines that are counted from this one on, or the first that is no number
abbrev pub numbers_from : ℕ → List (List ℕ) → Result (List ℕ) ScheduleFault
numbers_from k [] = Ok []
numbers_from k (line ∷ lines) = number_then k (number_of (without_return line)) (numbers_from (suc k) lines)

abbrev pub schedule_of : List ℕ → Result (List ℕ) ScheduleFault
schedule_of bytes = numbers_from 1 (lines_of bytes)
