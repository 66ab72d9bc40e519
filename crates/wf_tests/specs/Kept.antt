-- What a sink that grows has taken, and how many calls failed.
use Rattle.std.specs.Prelude.{ℕ, List}
use Rattle.wf_tests.specs.declared.kept.Kept.{Kept}

-- the bytes taken
abbrev pub kept_bytes : Kept → List ℕ
kept_bytes sink = sink.taken.items

-- how many calls failed
abbrev pub kept_faults : Kept → ℕ
kept_faults sink = sink.faults
