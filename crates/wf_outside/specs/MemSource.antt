-- What a source in memory has left, and what became of the calls.
use Rattle.std.specs.Prelude.{ℕ, List, drop}
use Rattle.wf_outside.specs.CallPlan.{CallPlan}
use Rattle.wf_outside.specs.declared.mem_source.MemSource.{MemSource}

-- the bytes not yet given
abbrev pub bytes_left : MemSource → List ℕ
bytes_left source = drop source.place source.bytes.items

-- how many calls failed
abbrev pub source_faults : MemSource → ℕ
source_faults source = source.faults

-- the calls made, and those that are to fail
abbrev pub nexts : MemSource → CallPlan
nexts source = source.calls
