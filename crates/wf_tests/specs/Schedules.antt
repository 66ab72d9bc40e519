-- Further schedules, made from a seed. A number of the schedule is what a linear congruence comes to, without its lower half: the one that
-- the C standard shows for `rand`.
use Rattle.std.specs.Prelude.{ℕ, zero, suc, ◌+◌, ◌*◌, ◌/◌, ◌%◌, List, [], ◌∷◌, ◌++◌, decimal}

abbrev pub next : ℕ → ℕ
next state = (state * 1103515245 + 12345) % 2147483648

-- where the schedule of a place, from 0, begins
abbrev pub start : ℕ → ℕ → ℕ
start seed place = (seed % 2147483648 + place * 7919) % 2147483648

abbrev pub line : ℕ → List ℕ
line state = decimal (state / 65536) ++ 10 ∷ []

-- so many lines behind a state
unfoldable pub lines_behind : ℕ → ℕ → List ℕ
lines_behind zero state = []
lines_behind (suc n) state = line (next state) ++ lines_behind n (next state)

-- 500 lines; where a run goes on longer, each turn takes the first
abbrev pub further_schedule : ℕ → ℕ → List ℕ
further_schedule seed place = lines_behind 500 (start seed place)
