-- What a sink in memory has taken, how much it takes, and what became of the calls.
use Rattle.std.specs.Prelude.{◌≡◌, ◌⊎◌, ℕ, ◌-◌, min, List, length}
use Rattle.wf_outside.specs.CallPlan.{CallPlan, IsDue}
use Rattle.wf_outside.specs.declared.mem_sink.MemSink.{MemSink}

-- the bytes taken
abbrev pub bytes_taken : MemSink → List ℕ
bytes_taken sink = sink.taken.items

-- the most bytes that one call takes
abbrev pub most_at_once : MemSink → ℕ
most_at_once sink = sink.piece

-- the most bytes that the sink takes in all
abbrev pub room_in_all : MemSink → ℕ
room_in_all sink = sink.room

-- how many calls failed
abbrev pub sink_faults : MemSink → ℕ
sink_faults sink = sink.faults

-- the calls made, and those that are to fail
abbrev pub puts : MemSink → CallPlan
puts sink = sink.calls

-- the next put fails: it is to fail, or no room is left
abbrev pub NextFails : MemSink → Type 0
NextFails sink = IsDue (puts sink) ⊎ (length (bytes_taken sink) ≡ room_in_all sink)

-- how many bytes of a piece the next put takes, where it doesn't fail
abbrev pub fitting : MemSink → List ℕ → ℕ
fitting sink piece = min (length piece) (min (most_at_once sink) (room_in_all sink - length (bytes_taken sink)))
