use Rattle.std.proofs.Common.{◌≡◌, ◌+◌, suc, get_or, set, add-one, arith, []}
use Rattle.wf_room.specs.Cells.{HasHole}
use Rattle.wf_room.proofs.ChunkLemmas.{lacking, handing_up, room-up, handed_up}
use Rattle.wf_room.proofs.cells.hand_up.Goals as goal

pub index_mut-requires : goal.index_mut-requires
index_mut-requires g c =
    omega (arith, (lacking c.args.chunks.now.items (c.args.place + 1) ([], 0) c.requires).chunk, c.args.chunks.now.ok.0)

pub pop_last-cell-requires : goal.pop_last-cell-requires
pop_last-cell-requires g c =
    let hole : HasHole (suc c.args.place) c.args.chunks.now.items = rw (add-one c.args.place) at c.requires in
    (handing_up c.args.chunks.now.items c.args.place c.index_mut.result.now hole c.index_mut.ensures.value).some

pub overflow_add-place : goal.overflow_add-place
overflow_add-place g c =
    omega (
      arith,
      (lacking c.args.chunks.now.items (c.args.place + 1) ([], 0) c.requires).chunk,
      c.args.chunks.now.ok.0,
      c.args.chunks.now.small,
    )

pub index_mut-requires-2 : goal.index_mut-requires-2
index_mut-requires-2 g c =
    omega (arith, (lacking c.args.chunks.now.items (c.args.place + 1) ([], 0) c.requires).chunk, c.args.chunks.now.ok.0)

pub push_first-requires : goal.push_first-requires
push_first-requires g c =
    let hole : HasHole (suc c.args.place) c.args.chunks.now.items = rw (add-one c.args.place) at c.requires in
    let next : c.index_mut-2.result.now ≡ get_or (set c.args.chunks.now.items c.args.place c.pop_last-cell.new.self) (suc c.args.place)
    c.index_mut-2.result.now = rw (add-one c.args.place) at c.index_mut-2.ensures.value in
    room-up c.args.chunks.now.items c.args.place c.pop_last-cell.new.self c.index_mut-2.result.now hole next

pub returns-clause-cells : goal.returns-clause-cells
returns-clause-cells g c =
    let hole : HasHole (suc c.args.place) c.args.chunks.now.items = rw (add-one c.args.place) at c.requires in
    let next : c.index_mut-2.result.now ≡ get_or (set c.args.chunks.now.items c.args.place c.pop_last-cell.new.self) (suc c.args.place)
    c.index_mut-2.result.now = rw (add-one c.args.place) at c.index_mut-2.ensures.value in
    rw (add-one c.args.place)
    (handed_up c.args.chunks.now.items c.args.place c.index_mut.result.now c.pop_last-cell.new.self c.index_mut-2.result.now
    c.push_first.new.self c.pop_last-cell.result hole c.index_mut.ensures.value next c.pop_last-cell.ensures.cells
    c.pop_last-cell.ensures.room c.push_first.ensures).cells

pub returns-clause-hole : goal.returns-clause-hole
returns-clause-hole g c =
    let hole : HasHole (suc c.args.place) c.args.chunks.now.items = rw (add-one c.args.place) at c.requires in
    let next : c.index_mut-2.result.now ≡ get_or (set c.args.chunks.now.items c.args.place c.pop_last-cell.new.self) (suc c.args.place)
    c.index_mut-2.result.now = rw (add-one c.args.place) at c.index_mut-2.ensures.value in
    rw (add-one c.args.place)
    (handed_up c.args.chunks.now.items c.args.place c.index_mut.result.now c.pop_last-cell.new.self c.index_mut-2.result.now
    c.push_first.new.self c.pop_last-cell.result hole c.index_mut.ensures.value next c.pop_last-cell.ensures.cells
    c.pop_last-cell.ensures.room c.push_first.ensures).hole
