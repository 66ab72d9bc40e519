use Rattle.std.proofs.Common.{◌≡◌, ◌≤◌, ◌-◌, ◌+◌, ◌++◌, length, replicate, None}
use Rattle.wf_room.proofs.still.add_cells.Given as goal

-- some empty cells are added
abbrev pub invariant-loop-cells : goal.invariant-loop-cells
invariant-loop-cells g l =
    (l.cells ≡ l.initial.cells ++ replicate (length l.cells - length l.initial.cells) None) × (length l.initial.cells ≤ length l.cells)

abbrev pub decreases-loop-cells : goal.decreases-loop-cells
decreases-loop-cells g l = l.full + l.wanted - length l.cells
