use Rattle.std.proofs.Common.{◌≡◌, slice_get, Some, insert, remove, sym, ap, [], arith}
use Rattle.wf_room.specs.Cells.{all_cells}
use Rattle.wf_room.proofs.ChunkLemmas.{within, or-none}
use Rattle.wf_room.proofs.cells.Cells.shift.Goals as goal

pub move_hole-requires-clause-to : goal.move_hole-requires-clause-to
move_hole-requires-clause-to g c =
    let to = rw (← c.self.view_is) at c.requires.to in
    let found = within c.self.inside.chunks.items c.args.to c.spot-goal.result.0 c.spot-goal.result.1 ([], 0) c.spot-goal.ensures.place
    c.self.invariant.0 to c.spot-goal.ensures.inside in
    omega (arith, found.chunk, c.take_cell-cell.ensures.count)

pub returns : goal.returns
returns g c =
    let cells = all_cells c.self.inside.chunks.items in
    let taken : slice_get cells c.args.from ≡ Some c.take_cell-cell.result =
    rw (← c.spot-hole.ensures.place) at c.take_cell-cell.ensures.cell in
    rw (
      ← c.self.view_is,
      c.put_cell.ensures.cells,
      c.move_hole.ensures.cells,
      c.take_cell-cell.ensures.rest,
      ← c.spot-goal.ensures.place,
      ← c.spot-hole.ensures.place,
    )
    (ap (insert (remove cells c.args.from) c.args.to) (sym (or-none cells c.args.from c.take_cell-cell.result taken)))
