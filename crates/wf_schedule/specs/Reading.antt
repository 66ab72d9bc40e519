-- How a schedule is read: line by line.
use Rattle.std.specs.Prelude.{ℕ, ◌+◌, ◌-◌, ◌*◌, List, ◌++◌, Option, None, Some, Result, Ok, Err, cond}
use Rattle.wf_schedule.specs.Schedule.{is_digit, small}
use Rattle.wf_schedule.specs.declared.fault.ScheduleFault.{ScheduleFault}

-- what a digit comes to behind those that come to n, where it is one and the number is one of a schedule
abbrev pub digit_then : ℕ → ℕ → Option ℕ
digit_then n b = small (cond (is_digit b) (Some (10 * n + (b - 48))) None)

-- what is read of the lines that are left, behind the numbers so far
abbrev pub behind : List ℕ → Result (List ℕ) ScheduleFault → Result (List ℕ) ScheduleFault
behind ns (Ok ms) = Ok (ns ++ ms)
behind ns (Err f) = Err f
