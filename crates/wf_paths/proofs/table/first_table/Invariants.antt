use Rattle.std.proofs.Common.{◌≡◌, length, map}
use Rattle.wf_paths.specs.Table.{edge_of, from}
use Rattle.wf_paths.proofs.table.first_table.Given as goal

abbrev pub invariant-loop-entries : goal.invariant-loop-entries
invariant-loop-entries l =
    map (λ r. r.items) l.rows.items ≡ from 0 l.entries-index (λ a. from 0 (length l.nodes) (λ p. edge_of (map (λ e. e.items) l.nodes) p a))
