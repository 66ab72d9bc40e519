-- WHAT FUNCTIONS OF THE MOMENT GIVE (Workflow Definition Language, date and time functions utcNow, getFutureTime and getPastTime).
-- The types of all arguments are judged first, each at its place in the call as it is written.
use Rattle.std.specs.Prelude.{ℕ, ℤ, pos, negsuc, List, Result, Err, length, if◌then◌else◌}
use Rattle.wf_val.specs.Arguments.{Answer, given, wrong_type, text_at, number_at, optional_text_at}
use Rattle.wf_val.specs.Arity.{takes}
use Rattle.wf_val.specs.ValueTree.{ValueTree}
use Rattle.wf_val.specs.declared.fault.EvalFault.{EvalFault}
use Rattle.wf_val.specs.declared.function.Fun.{Fun}
use Rattle.wf_fn_time.specs.Moments.{moment}
use Rattle.wf_fn_time.specs.Moving.{shift_of, opposite, unit_of, moved_row}
use Rattle.wf_fn_time.specs.Times.{or_range, print_time_row}
use Rattle.wf_fn_time.specs.declared.shift.Shift.{Shift}

-- a look's moment; `Range` outside the years 1 to 9999
abbrev pub moment_in : Fun → ℤ → Result ℕ EvalFault
moment_in f (pos n) = or_range f (moment n)
moment_in f (negsuc n) = Err (EvalFault.Range f)

-- printed by a pattern, as `formatDateTime` prints
abbrev pub utc_now_row : ℤ → List ValueTree → Answer
utc_now_row m ts = given (optional_text_at Fun.UtcNow ts 0) (λ p. given (moment_in Fun.UtcNow m) (λ t. print_time_row t p Fun.UtcNow))

-- so many units later, as `addToTime` moves a timestamp, and earlier, as `subtractFromTime` does
abbrev pub moved_by : Fun → (Shift → Shift) → ℤ → List ValueTree → Answer
moved_by f way m ts =
    given (number_at f ts 0) (λ n. given (text_at f ts 1) (λ unit. given (optional_text_at f ts 2) (λ p.
    given (moment_in f m) (λ t. moved_row f t p (way (shift_of n)) (unit_of unit)))))

abbrev pub get_future_time_row : ℤ → List ValueTree → Answer
get_future_time_row = moved_by Fun.GetFutureTime (λ s. s)

abbrev pub get_past_time_row : ℤ → List ValueTree → Answer
get_past_time_row = moved_by Fun.GetPastTime opposite

-- the three are the functions of the moment
abbrev pub timed_by : Fun → ℤ → List ValueTree → Answer
timed_by Fun.UtcNow = utc_now_row
timed_by Fun.GetFutureTime = get_future_time_row
timed_by f = get_past_time_row

abbrev pub timed_row : Fun → ℤ → List ValueTree → Answer
timed_row f m ts = if takes f (length ts) then timed_by f m ts else Err (wrong_type f (length ts))
