-- The limits of what is taken, as numbers of their own: the code's constants are proved to be these.
use Rattle.std.specs.Prelude.{ℕ}

-- the greatest length of a definition's file, in bytes: 4 MiB
abbrev pub definition_bytes : ℕ
definition_bytes = 4194304

-- the greatest length of an inputs file, in bytes: 64 MiB
abbrev pub inputs_bytes : ℕ
inputs_bytes = 67108864

-- the greatest length of a file of a schedule, in bytes: 64 MiB
abbrev pub schedule_bytes : ℕ
schedule_bytes = 67108864

-- the greatest length of a file of a history, in bytes: 64 MiB
abbrev pub history_bytes : ℕ
history_bytes = 67108864
