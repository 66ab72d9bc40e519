-- A RUN THAT IS MADE, by the actions that act in it, and what is kept of it.
use Rattle.std.specs.Prelude.{◌≤◌, ◌<◌, ◌+◌, ◌*◌, ℕ, Bool, List}
use Rattle.wf_drive.specs.Driven.{IsDriven, IsFirst}
use Rattle.wf_runnable.specs.Actions.{Actions}
use Rattle.wf_runnable.specs.Meant.{depth, fee, graph, rows_meant, source, told}
use Rattle.wf_runnable.specs.Over.{Lists, Moment, moment}

-- nothing has happened yet
abbrev pub IsAtFirst : Actions → Lists → Type 0
IsAtFirst a h = IsFirst (graph a) (source a) (depth a) (moment h)

-- Turns under the schedule led from the first state to one in which nothing may happen.
pub record IsMade (a : Actions) (first : Moment) (schedule : List ℕ) (traced : Bool) (steps most : ℕ) (trace : List ℕ) : Type 0 where
  pub last : Moment
  pub driven : IsDriven (graph a) (source a) (told a) schedule first last steps most traced trace

-- its start and its rows cost this much
abbrev pub price : Actions → ℕ
price a = fee a + rows_meant a

-- each event costs 32 at least
abbrev pub AreFew : ℕ → ℕ → Type 0
AreFew steps cost = 64 + 32 * steps ≤ cost

-- it costs too much, beside what others cost
abbrev pub IsTooMuch : ℕ → ℕ → Type 0
IsTooMuch spent cost = 67108864 < spent + cost
