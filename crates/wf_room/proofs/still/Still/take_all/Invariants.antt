use Rattle.std.proofs.Common.{◌≡◌, ◌≤◌, ◌+◌, ◌++◌, length, reverse}
use Rattle.wf_room.proofs.still.Still.take_all.Given as goal

-- the items that were taken, the last first, stand behind those that are left, for which there is room
abbrev pub invariant-loop-self : goal.invariant-loop-self
invariant-loop-self g l = record {
  items : l.self.0 ++ reverse l.items.items ≡ l.initial.self.0;
  room : length l.self.0 + l.items.len ≤ l.items.cap;
}

abbrev pub decreases-loop-self : goal.decreases-loop-self
decreases-loop-self g l = length l.self.0
