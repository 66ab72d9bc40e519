use Rattle.std.proofs.Common.{◌≡◌, ◌≤◌, ◌-◌, length}
use Rattle.wf_room.specs.Cells.{all_cells, HasHole}
use Rattle.wf_room.proofs.cells.move_hole.Given as goal

-- no cell left its place among all
abbrev pub invariant-loop-hole : goal.invariant-loop-hole
invariant-loop-hole g l =
    (all_cells l.chunks.items ≡ all_cells l.initial.chunks.items) × HasHole l.hole l.chunks.items
    × (length l.chunks.items ≡ length l.initial.chunks.items)

abbrev pub decreases-loop-hole : goal.decreases-loop-hole
decreases-loop-hole g l = l.hole - l.to

abbrev pub invariant-loop-hole-2 : goal.invariant-loop-hole-2
invariant-loop-hole-2 g l =
    (all_cells l.chunks.items ≡ all_cells l.initial.chunks.items) × HasHole l.hole l.chunks.items
    × (length l.chunks.items ≡ length l.initial.chunks.items) × (l.hole ≤ l.to)

abbrev pub decreases-loop-hole-2 : goal.decreases-loop-hole-2
decreases-loop-hole-2 g l = l.to - l.hole
