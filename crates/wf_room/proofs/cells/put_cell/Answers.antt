use Rattle.std.proofs.Common.{◌*◌, ◌+◌, refl, [], arith}
use Rattle.wf_room.proofs.ChunkLemmas.{lacking, inside-hole, cell-put}
use Rattle.wf_room.proofs.cells.put_cell.Goals as goal

pub index_mut-requires : goal.index_mut-requires
index_mut-requires g c =
    omega (arith, (lacking c.args.chunks.now.items c.args.hole ([], 0) c.requires.hole).chunk, c.args.chunks.now.ok.0)

pub insert-requires-clause-place : goal.insert-requires-clause-place
insert-requires-clause-place g c =
    inside-hole c.args.chunks.now.items (c.args.hole * 1024 + c.args.inside) c.args.hole c.args.inside c.index_mut.result.now refl
    c.requires.hole c.requires.place c.requires.inside c.index_mut.ensures.value

pub insert-requires-clause-room : goal.insert-requires-clause-room
insert-requires-clause-room g c =
    (lacking c.args.chunks.now.items c.args.hole c.index_mut.result.now c.requires.hole).room c.index_mut.ensures.value

pub returns-clause-cells : goal.returns-clause-cells
returns-clause-cells g c =
    let place = c.args.hole * 1024 + c.args.inside in
    let within = inside-hole c.args.chunks.now.items place c.args.hole c.args.inside c.index_mut.result.now refl c.requires.hole
    c.requires.place c.requires.inside c.index_mut.ensures.value in
    (cell-put c.args.chunks.now.items place c.args.hole c.args.inside c.index_mut.result.now c.insert.new.self c.args.cell refl
    c.requires.hole c.index_mut.ensures.value within c.insert.ensures).cells

pub returns-clause-even : goal.returns-clause-even
returns-clause-even g c =
    let place = c.args.hole * 1024 + c.args.inside in
    let within = inside-hole c.args.chunks.now.items place c.args.hole c.args.inside c.index_mut.result.now refl c.requires.hole
    c.requires.place c.requires.inside c.index_mut.ensures.value in
    (cell-put c.args.chunks.now.items place c.args.hole c.args.inside c.index_mut.result.now c.insert.new.self c.args.cell refl
    c.requires.hole c.index_mut.ensures.value within c.insert.ensures).even
