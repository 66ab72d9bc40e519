use Rattle.std.proofs.Common.{length, length-set, ◌∙◌, sym, ap, [], arith}
use Rattle.wf_room.specs.Cells.{all_cells}
use Rattle.wf_room.proofs.ChunkLemmas.{within, cell-at, cell-set}
use Rattle.wf_room.proofs.cells.Cells.replace.Goals as goal

pub index_mut-requires : goal.index_mut-requires
index_mut-requires g c =
    let place = rw (← c.self.view_is) at c.requires in
    let found = within c.self.inside.chunks.items c.args.place c.spot-chunk.result.0 c.spot-chunk.result.1 ([], 0)
    c.spot-chunk.ensures.place c.self.invariant.0 place c.spot-chunk.ensures.inside in
    omega (arith, found.chunk, c.self.inside.chunks.ok.0)

pub replace-requires : goal.replace-requires
replace-requires g c =
    let place = rw (← c.self.view_is) at c.requires in
    (within c.self.inside.chunks.items c.args.place c.spot-chunk.result.0 c.spot-chunk.result.1 c.index_mut.result.now
    c.spot-chunk.ensures.place c.self.invariant.0 place c.spot-chunk.ensures.inside).inside c.index_mut.ensures.value

pub invariant_of-self : goal.invariant_of-self
invariant_of-self g c =
    let place = rw (← c.self.view_is) at c.requires in
    let found = within c.self.inside.chunks.items c.args.place c.spot-chunk.result.0 c.spot-chunk.result.1 c.index_mut.result.now
    c.spot-chunk.ensures.place c.self.invariant.0 place c.spot-chunk.ensures.inside in
    let made = cell-set c.self.inside.chunks.items c.args.place c.spot-chunk.result.0 c.spot-chunk.result.1 c.index_mut.result.now
    c.replace.new.self c.args.content c.spot-chunk.ensures.place c.self.invariant.0 found.chunk c.index_mut.ensures.value
    (found.inside c.index_mut.ensures.value) c.replace.ensures.cells in (
      made.even,
      c.self.invariant.1 ∙ sym (length-set (all_cells c.self.inside.chunks.items) c.args.place c.args.content) ∙ ap length (sym made.cells),
      c.self.invariant.2,
    )

pub returns-clause-before : goal.returns-clause-before
returns-clause-before g c =
    let place = rw (← c.self.view_is) at c.requires in
    let found = within c.self.inside.chunks.items c.args.place c.spot-chunk.result.0 c.spot-chunk.result.1 c.index_mut.result.now
    c.spot-chunk.ensures.place c.self.invariant.0 place c.spot-chunk.ensures.inside in
    rw (← c.self.view_is)
    (cell-at c.self.inside.chunks.items c.args.place c.spot-chunk.result.0 c.spot-chunk.result.1 c.index_mut.result.now
    c.spot-chunk.ensures.place c.self.invariant.0 found.chunk c.index_mut.ensures.value (found.inside c.index_mut.ensures.value)
    ∙ c.replace.ensures.before)

pub returns-clause-after : goal.returns-clause-after
returns-clause-after g c =
    let place = rw (← c.self.view_is) at c.requires in
    let found = within c.self.inside.chunks.items c.args.place c.spot-chunk.result.0 c.spot-chunk.result.1 c.index_mut.result.now
    c.spot-chunk.ensures.place c.self.invariant.0 place c.spot-chunk.ensures.inside in
    rw (← c.self.view_is)
    (cell-set c.self.inside.chunks.items c.args.place c.spot-chunk.result.0 c.spot-chunk.result.1 c.index_mut.result.now
    c.replace.new.self c.args.content c.spot-chunk.ensures.place c.self.invariant.0 found.chunk c.index_mut.ensures.value
    (found.inside c.index_mut.ensures.value) c.replace.ensures.cells).cells
