use Rattle.std.proofs.Common.{◌≡◌, ◌++◌, drop, map}
use Rattle.wf_tables.specs.Blocks.{skipped_at}
use Rattle.wf_tables.proofs.blocks.skipped_rows.Given as goal

abbrev pub invariant-loop-number : goal.invariant-loop-number
invariant-loop-number g l =
    let a = g.A.Acts in
    map (λ r. (r.instance, a.row_tree r.row)) l.rows.items ++ skipped_at (a.source l.acts).skipped l.at (drop l.number-index l.numbers)
    ≡ skipped_at (a.source l.acts).skipped l.at l.numbers
