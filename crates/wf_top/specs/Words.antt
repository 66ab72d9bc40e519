-- Which words are a command.
use Rattle.std.specs.Prelude.{ℕ, ◌+◌, ◌-◌, ◌*◌, List, [], ◌∷◌, ◌&&◌, ◌||◌, drop, length, Bool, not, true, false, Option, None, Some}
use Rattle.std.specs.Prelude.{if◌then◌else◌, nat_eq, nat_le, nat_lt, codes}
use Rattle.std.specs.Prelude.{slice_get, slice_index_or}
use Rattle.std.specs.Char.{is_ascii_digit}
use Rattle.std.specs.Str.{bytes_eq}
use Rattle.wf_fn_time.specs.Reading.{read_time}
use Rattle.wf_top.specs.declared.words.Command.{Command}
use Rattle.wf_top.specs.declared.words.Command.TheVariants.{Check, Run, Trace, Resubmit, ResubmitSet, Drill, Fires, Session}

-- the word at a place
abbrev pub word : List (List ℕ) → ℕ → List ℕ
word words place = slice_index_or words place []

-- the word SCHEDULE, or None where the words have none
abbrev pub schedule_word : List (List ℕ) → Option (List ℕ)
schedule_word words = slice_get words 3

-- the words name this command, and so many words follow
abbrev pub is_command : List ℕ → ℕ → List (List ℕ) → Bool
is_command name count [] = false
is_command name count (first ∷ rest) = bytes_eq first name && nat_eq (length rest) count

-- and so many at least and at most
abbrev pub is_command_within : List ℕ → ℕ → ℕ → List (List ℕ) → Bool
is_command_within name least most [] = false
is_command_within name least most (first ∷ rest) =
    bytes_eq first name && (nat_le least (length rest) && nat_le (length rest) most)

-- what decimal digits come to behind those that come to n; none behind more than a thousand
abbrev pub digits_from : ℕ → List ℕ → Option ℕ
digits_from n [] = Some n
digits_from n (b ∷ bs) = if not (is_ascii_digit b) || nat_lt 1000 n then None else digits_from (n * 10 + (b - 48)) bs

abbrev pub within_count : Option ℕ → Option ℕ
within_count (Some n) = if nat_le 1 n && nat_le n 1000 then Some n else None
within_count None = None

-- a number from 1 to 1000, without a zero in front
abbrev pub count_of : List ℕ → Option ℕ
count_of [] = None
count_of (b ∷ bs) = if nat_eq b 48 then None else within_count (digits_from 0 (b ∷ bs))

-- the command `fires` with this moment and this number, if they are there
abbrev pub fires_with : Option ℕ → Option ℕ → Option Command
fires_with (Some from) (Some count) = Some (Fires from count)
fires_with from count = None

abbrev pub fires_of : List ℕ → List ℕ → Option Command
fires_of from count = fires_with (read_time from) (count_of count)

-- a number from 1 to 400
abbrev pub within_size : Option ℕ → Option ℕ
within_size (Some n) = if nat_le 1 n && nat_le n 400 then Some n else None
within_size None = None

-- without a zero in front
abbrev pub size_of : List ℕ → Option ℕ
size_of [] = None
size_of (b ∷ bs) = if nat_eq b 48 then None else within_size (digits_from 0 (b ∷ bs))

-- the command `drill` with this number, if it is there
abbrev pub drill_with : Option ℕ → Option Command
drill_with (Some n) = Some (Drill n)
drill_with None = None

abbrev pub drill_of : List ℕ → Option Command
drill_of size = drill_with (size_of size)

-- the command that the words are, or None
abbrev pub command_of : List (List ℕ) → Option Command
command_of words =
    if is_command (codes "check") 1 words then Some Check else
    (if is_command (codes "run") 2 words || is_command (codes "run") 3 words then Some Run else
    (if is_command (codes "trace") 3 words then Some Trace else
    (if is_command (codes "list") 1 words then Some Command.List else
    (if is_command (codes "resubmit") 5 words || is_command (codes "resubmit") 6 words then Some Resubmit else
    (if is_command_within (codes "resubmit-set") 6 505 words then Some ResubmitSet else
    (if is_command (codes "fires") 4 words then fires_of (word words 3) (word words 4) else
    (if is_command (codes "drill") 1 words then drill_of (word words 1) else
    (if is_command (codes "session") 2 words then Some Session else None))))))))

-- the command makes the runs that inputs start
abbrev pub makes_runs : Command → Bool
makes_runs Check = false
makes_runs Run = true
makes_runs Trace = true
makes_runs Command.List = false
makes_runs Resubmit = false
makes_runs ResubmitSet = false
makes_runs (Fires from count) = false
makes_runs (Drill n) = false
makes_runs Session = false

-- the command writes the events of each run above its record
abbrev pub is_traced : Command → Bool
is_traced Check = false
is_traced Run = false
is_traced Trace = true
is_traced Command.List = false
is_traced Resubmit = false
is_traced ResubmitSet = false
is_traced (Fires from count) = false
is_traced (Drill n) = false
is_traced Session = false

-- the command resubmits a run
abbrev pub resubmits : Command → Bool
resubmits Check = false
resubmits Run = false
resubmits Trace = false
resubmits Command.List = false
resubmits Resubmit = true
resubmits ResubmitSet = true
resubmits (Fires from count) = false
resubmits (Drill n) = false
resubmits Session = false

-- What a resubmission goes by beside DEF: the words HISTORY, RUN, INPUTS and SCHEDULE, where there is one, and the names of the actions.
pub record AskedTree : Type 0 where
  pub history : List ℕ
  pub run : List ℕ
  pub inputs : List ℕ
  pub schedule : Option (List ℕ)
  pub names : List (List ℕ)

-- resubmit DEF HISTORY RUN ACTION INPUTS [SCHEDULE]
abbrev pub one_asked : List (List ℕ) → AskedTree
one_asked words = record {
  history = word words 2;
  run = word words 3;
  inputs = word words 5;
  schedule = slice_get words 6;
  names = word words 4 ∷ [];
}

-- resubmit-set DEF HISTORY RUN INPUTS SCHEDULE ACTION...
abbrev pub set_asked : List (List ℕ) → AskedTree
set_asked words = record {
  history = word words 2;
  run = word words 3;
  inputs = word words 4;
  schedule = Some (word words 5);
  names = drop 6 words;
}

-- by the command
abbrev pub asked_of : Command → List (List ℕ) → AskedTree
asked_of ResubmitSet words = set_asked words
asked_of command words = one_asked words
