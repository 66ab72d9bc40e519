use Rattle.std.proofs.Common.{◌∙◌, [], arith}
use Rattle.wf_room.proofs.ChunkLemmas.{within, cell-at}
use Rattle.wf_room.proofs.cells.Cells.cell.Goals as goal

pub index-requires : goal.index-requires
index-requires g c =
    let place = rw (← c.self.view_is) at c.requires in
    let found = within c.self.inside.chunks.items c.args.place c.spot-chunk.result.0 c.spot-chunk.result.1 ([], 0)
    c.spot-chunk.ensures.place c.self.invariant.0 place c.spot-chunk.ensures.inside in
    omega (arith, found.chunk, c.self.inside.chunks.ok.0)

pub cell-requires : goal.cell-requires
cell-requires g c =
    let place = rw (← c.self.view_is) at c.requires in
    (within c.self.inside.chunks.items c.args.place c.spot-chunk.result.0 c.spot-chunk.result.1 c.index.result.now
    c.spot-chunk.ensures.place c.self.invariant.0 place c.spot-chunk.ensures.inside).inside c.index.ensures

pub returns : goal.returns
returns g c =
    let place = rw (← c.self.view_is) at c.requires in
    let found = within c.self.inside.chunks.items c.args.place c.spot-chunk.result.0 c.spot-chunk.result.1 c.index.result.now
    c.spot-chunk.ensures.place c.self.invariant.0 place c.spot-chunk.ensures.inside in
    rw (← c.self.view_is)
    (cell-at c.self.inside.chunks.items c.args.place c.spot-chunk.result.0 c.spot-chunk.result.1 c.index.result.now
    c.spot-chunk.ensures.place c.self.invariant.0 found.chunk c.index.ensures (found.inside c.index.ensures) ∙ c.cell.ensures)
