use Rattle.std.proofs.Common.{◌≤◌, ◌<◌, sym, leb-true, leb-false, arith}
use Rattle.wf_room.proofs.ChunkLemmas.{last-full, last-short}
use Rattle.wf_room.proofs.cells.are_full.Goals as goal

pub returns-in-Some-clause-yes : goal.returns-in-Some-clause-yes
returns-in-Some-clause-yes g c = λ yes.
    let full : 1024 ≤ c.len.result = leb-true 1024 c.len.result yes in
    last-full c.args.chunks.now c.in-Some.chunk.now c.requires (sym c.in-Some.ensures.value) (omega (arith, full, c.len.ensures))

pub returns-in-Some-clause-no : goal.returns-in-Some-clause-no
returns-in-Some-clause-no g c = λ no.
    let short : c.len.result < 1024 = leb-false 1024 c.len.result no in
    last-short c.args.chunks.now c.in-Some.chunk.now c.requires (sym c.in-Some.ensures.value) (omega (arith, short, c.len.ensures))
