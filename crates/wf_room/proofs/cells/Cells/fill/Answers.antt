use Rattle.std.proofs.Common.{Some, length, length-set, ◌∙◌, sym, ap, [], arith}
use Rattle.wf_room.specs.Cells.{all_cells}
use Rattle.wf_room.proofs.ChunkLemmas.{within, cell-set}
use Rattle.wf_room.proofs.cells.Cells.fill.Goals as goal

pub index_mut-requires : goal.index_mut-requires
index_mut-requires g c =
    let place = rw (← c.self.view_is) at c.requires in
    let found = within c.self.inside.chunks.items c.args.place c.spot-chunk.result.0 c.spot-chunk.result.1 ([], 0)
    c.spot-chunk.ensures.place c.self.invariant.0 place c.spot-chunk.ensures.inside in
    omega (arith, found.chunk, c.self.inside.chunks.ok.0)

pub fill-requires : goal.fill-requires
fill-requires g c =
    let place = rw (← c.self.view_is) at c.requires in
    (within c.self.inside.chunks.items c.args.place c.spot-chunk.result.0 c.spot-chunk.result.1 c.index_mut.result.now
    c.spot-chunk.ensures.place c.self.invariant.0 place c.spot-chunk.ensures.inside).inside c.index_mut.ensures.value

pub invariant_of-self : goal.invariant_of-self
invariant_of-self g c =
    let place = rw (← c.self.view_is) at c.requires in
    let found = within c.self.inside.chunks.items c.args.place c.spot-chunk.result.0 c.spot-chunk.result.1 c.index_mut.result.now
    c.spot-chunk.ensures.place c.self.invariant.0 place c.spot-chunk.ensures.inside in
    let made = cell-set c.self.inside.chunks.items c.args.place c.spot-chunk.result.0 c.spot-chunk.result.1 c.index_mut.result.now
    c.fill.new.self (Some c.args.item) c.spot-chunk.ensures.place c.self.invariant.0 found.chunk c.index_mut.ensures.value
    (found.inside c.index_mut.ensures.value) c.fill.ensures.cells in (
      made.even,
      c.self.invariant.1 ∙ sym (length-set (all_cells c.self.inside.chunks.items) c.args.place (Some c.args.item))
          ∙ ap length (sym made.cells),
      c.self.invariant.2,
    )

pub returns : goal.returns
returns g c =
    let place = rw (← c.self.view_is) at c.requires in
    let found = within c.self.inside.chunks.items c.args.place c.spot-chunk.result.0 c.spot-chunk.result.1 c.index_mut.result.now
    c.spot-chunk.ensures.place c.self.invariant.0 place c.spot-chunk.ensures.inside in
    rw (← c.self.view_is)
    (cell-set c.self.inside.chunks.items c.args.place c.spot-chunk.result.0 c.spot-chunk.result.1 c.index_mut.result.now
    c.fill.new.self (Some c.args.item) c.spot-chunk.ensures.place c.self.invariant.0 found.chunk c.index_mut.ensures.value
    (found.inside c.index_mut.ensures.value) c.fill.ensures.cells).cells
