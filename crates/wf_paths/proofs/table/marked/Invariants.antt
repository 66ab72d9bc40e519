use Rattle.std.proofs.Common.{◌≡◌, drop}
use Rattle.wf_paths.specs.Table.{marked}
use Rattle.wf_paths.proofs.table.marked.Given as goal

abbrev pub invariant-loop-place : goal.invariant-loop-place
invariant-loop-place l = marked l.row.items (drop l.place-index l.places) ≡ marked l.fn.row.items l.places
