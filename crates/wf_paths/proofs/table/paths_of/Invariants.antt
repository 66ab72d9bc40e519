use Rattle.std.proofs.Common.{◌≡◌, length, map}
use Rattle.wf_paths.specs.Path.{leads}
use Rattle.wf_paths.specs.Table.{edge_of, table}
use Rattle.wf_paths.proofs.table.paths_of.Given as goal

abbrev pub invariant-loop-k : goal.invariant-loop-k
invariant-loop-k l =
    map (λ r. r.items) l.rows.items ≡ table (length l.nodes) (leads (edge_of (map (λ e. e.items) l.nodes)) l.k)
