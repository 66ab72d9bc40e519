-- What moments, days and moves are, said in another way.
use Rattle.std.specs.Prelude.{Ok, List, [], ◌∷◌, option_map, option_and_then, ◌≡◌, ℕ, ℤ, pos, negsuc, ◌+ℤ◌, ◌*ℤ◌, Option, Some, None}
use Rattle.jiff_core.specs.Date.{epoch_day}
use Rattle.jiff_core.specs.declared.civil.date.Date.{Date}
use Rattle.wf_fn_time.specs.Calendar.{day_at, date_day}
use Rattle.wf_fn_time.specs.Moments.{moment}
use Rattle.wf_fn_time.specs.Moving.{moved, opposite, shift_of}
use Rattle.wf_fn_time.specs.Clock.{clock_at}
use Rattle.wf_fn_time.specs.Pattern.{default_pattern, parts_of}
use Rattle.wf_fn_time.specs.Places.{ticks_row}
use Rattle.wf_fn_time.specs.Printing.{printed}
use Rattle.wf_fn_time.specs.Reading.{read_time}
use Rattle.wf_val.specs.ValueTree.{text, number}
use Rattle.wf_fn_time.specs.declared.shift.Shift.{Shift}

-- the moment of so many ticks, which may be below 0
abbrev pub signed_moment : ℤ → Option ℕ
signed_moment (pos t) = moment t
signed_moment (negsuc t) = None

-- a move is a sum
abbrev pub IsSum : ℕ → ℤ → ℕ → Type 0
IsSum unit n t = moved unit (shift_of n) t ≡ signed_moment (pos t +ℤ n *ℤ pos unit)

-- moved on and back again a moment is where it was
abbrev pub IsUndone : ℕ → Shift → ℕ → ℕ → Type 0
IsUndone unit s t u = moved unit s t ≡ Some u → moved unit (opposite s) u ≡ Some t

-- the day that the library's calendar has so many days after 1 January of the year 1
abbrev pub IsLibraryDay : Date → ℕ → Type 0
IsLibraryDay d n = epoch_day d +ℤ pos 719162 ≡ pos n → day_at n ≡ date_day d

-- what is printed of a moment where no pattern is given
abbrev pub printed_by_default : ℕ → Option (List ℕ)
printed_by_default t = option_map (printed (clock_at t)) (parts_of default_pattern)

-- it is read as the moment, and its ticks are the moment's
abbrev pub IsReadBack : ℕ → Type 0
IsReadBack t = option_and_then read_time (printed_by_default t) ≡ Some t

abbrev pub HasItsTicks : ℕ → Type 0
HasItsTicks t = (s : List ℕ) → printed_by_default t ≡ Some s → ticks_row (text s ∷ []) ≡ Ok (number (pos t))
