use Rattle.std.proofs.Common.{◌*◌, ◌+◌, refl, ◌∙◌, [], arith}
use Rattle.wf_room.proofs.ChunkLemmas.{within, cell-at, cell-taken}
use Rattle.wf_room.proofs.cells.take_cell.Goals as goal

pub index_mut-requires : goal.index_mut-requires
index_mut-requires g c =
    let found = within c.args.chunks.now.items (c.args.chunk * 1024 + c.args.inside) c.args.chunk c.args.inside ([], 0) refl c.requires.even
    c.requires.place c.requires.inside in
    omega (arith, found.chunk, c.args.chunks.now.ok.0)

pub remove-requires : goal.remove-requires
remove-requires g c =
    (within c.args.chunks.now.items (c.args.chunk * 1024 + c.args.inside) c.args.chunk c.args.inside c.index_mut.result.now refl
    c.requires.even c.requires.place c.requires.inside).inside c.index_mut.ensures.value

pub returns-clause-cell : goal.returns-clause-cell
returns-clause-cell g c =
    let place = c.args.chunk * 1024 + c.args.inside in
    let found = within c.args.chunks.now.items place c.args.chunk c.args.inside c.index_mut.result.now refl c.requires.even c.requires.place
    c.requires.inside in
    cell-at c.args.chunks.now.items place c.args.chunk c.args.inside c.index_mut.result.now refl c.requires.even found.chunk
    c.index_mut.ensures.value (found.inside c.index_mut.ensures.value) ∙ c.remove.ensures.cell

pub returns-clause-rest : goal.returns-clause-rest
returns-clause-rest g c =
    let place = c.args.chunk * 1024 + c.args.inside in
    let found = within c.args.chunks.now.items place c.args.chunk c.args.inside c.index_mut.result.now refl c.requires.even c.requires.place
    c.requires.inside in
    (cell-taken c.args.chunks.now.items place c.args.chunk c.args.inside c.index_mut.result.now c.remove.new.self refl c.requires.even
    found.chunk c.index_mut.ensures.value (found.inside c.index_mut.ensures.value) c.remove.ensures.rest c.remove.ensures.room).rest

pub returns-clause-hole : goal.returns-clause-hole
returns-clause-hole g c =
    let place = c.args.chunk * 1024 + c.args.inside in
    let found = within c.args.chunks.now.items place c.args.chunk c.args.inside c.index_mut.result.now refl c.requires.even c.requires.place
    c.requires.inside in
    (cell-taken c.args.chunks.now.items place c.args.chunk c.args.inside c.index_mut.result.now c.remove.new.self refl c.requires.even
    found.chunk c.index_mut.ensures.value (found.inside c.index_mut.ensures.value) c.remove.ensures.rest c.remove.ensures.room).hole
