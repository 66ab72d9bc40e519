use Rattle.std.proofs.Common.{◌≡◌, ◌<◌, suc, length, get_or, set, add-one}
use Rattle.wf_room.proofs.ChunkLemmas.{handing_down, room-down, handed_down}
use Rattle.wf_room.proofs.cells.hand_down.Goals as goal

pub pop_first-cell-requires : goal.pop_first-cell-requires
pop_first-cell-requires g c =
    let within : suc c.args.hole < length c.args.chunks.now.items = rw (add-one c.args.hole) at c.requires.next in
    let next : c.index_mut.result.now ≡ get_or c.args.chunks.now.items (suc c.args.hole) c.index_mut.result.now
    = rw (add-one c.args.hole) at c.index_mut.ensures.value in
    handing_down c.args.chunks.now.items c.args.hole c.index_mut.result.now c.requires.hole within next

pub push_last-requires : goal.push_last-requires
push_last-requires g c =
    let within : suc c.args.hole < length c.args.chunks.now.items = rw (add-one c.args.hole) at c.requires.next in
    let first : c.index_mut-2.result.now ≡ get_or (set c.args.chunks.now.items (suc c.args.hole) c.pop_first-cell.new.self) c.args.hole
    c.index_mut-2.result.now = rw (add-one c.args.hole) at c.index_mut-2.ensures.value in
    room-down c.args.chunks.now.items c.args.hole c.index_mut-2.result.now c.pop_first-cell.new.self c.requires.hole within first

pub returns-clause-cells : goal.returns-clause-cells
returns-clause-cells g c =
    let within : suc c.args.hole < length c.args.chunks.now.items = rw (add-one c.args.hole) at c.requires.next in
    let next : c.index_mut.result.now ≡ get_or c.args.chunks.now.items (suc c.args.hole) c.index_mut.result.now
    = rw (add-one c.args.hole) at c.index_mut.ensures.value in
    let first : c.index_mut-2.result.now ≡ get_or (set c.args.chunks.now.items (suc c.args.hole) c.pop_first-cell.new.self) c.args.hole
    c.index_mut-2.result.now = rw (add-one c.args.hole) at c.index_mut-2.ensures.value in
    rw (add-one c.args.hole)
    (handed_down c.args.chunks.now.items c.args.hole c.index_mut-2.result.now c.push_last.new.self c.index_mut.result.now
    c.pop_first-cell.new.self c.pop_first-cell.result c.requires.hole within next first c.pop_first-cell.ensures.cells
    c.pop_first-cell.ensures.room c.push_last.ensures).cells

pub returns-clause-hole : goal.returns-clause-hole
returns-clause-hole g c =
    let within : suc c.args.hole < length c.args.chunks.now.items = rw (add-one c.args.hole) at c.requires.next in
    let next : c.index_mut.result.now ≡ get_or c.args.chunks.now.items (suc c.args.hole) c.index_mut.result.now
    = rw (add-one c.args.hole) at c.index_mut.ensures.value in
    let first : c.index_mut-2.result.now ≡ get_or (set c.args.chunks.now.items (suc c.args.hole) c.pop_first-cell.new.self) c.args.hole
    c.index_mut-2.result.now = rw (add-one c.args.hole) at c.index_mut-2.ensures.value in
    rw (add-one c.args.hole)
    (handed_down c.args.chunks.now.items c.args.hole c.index_mut-2.result.now c.push_last.new.self c.index_mut.result.now
    c.pop_first-cell.new.self c.pop_first-cell.result c.requires.hole within next first c.pop_first-cell.ensures.cells
    c.pop_first-cell.ensures.room c.push_last.ensures).hole
