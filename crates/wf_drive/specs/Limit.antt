-- How much the runs of one command may cost together.
use Rattle.std.specs.Prelude.{ℕ}

abbrev pub most_cost : ℕ
most_cost = 67108864
