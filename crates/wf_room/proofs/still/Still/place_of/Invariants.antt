use Rattle.std.proofs.Common.{◌≤◌, ◌-◌, length, take, drop}
use Rattle.wf_room.proofs.SearchLemmas.{AreBelow, AreAbove}
use Rattle.wf_room.proofs.still.Still.place_of.Given as goal

-- the items before the first place are below the key, and those from the second place on are above it
abbrev pub invariant-loop-low : goal.invariant-loop-low
invariant-loop-low g l =
    (l.low ≤ l.high) × (l.high ≤ length l.fn.self.0)
    × AreBelow g.met.T.Key.Ord.total g.T.Keyed.key_of l.fn.key (take l.low l.fn.self.0)
    × AreAbove g.met.T.Key.Ord.total g.T.Keyed.key_of l.fn.key (drop l.high l.fn.self.0)

abbrev pub decreases-loop-low : goal.decreases-loop-low
decreases-loop-low g l = l.high - l.low
