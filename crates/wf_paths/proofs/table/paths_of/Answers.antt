use Rattle.std.proofs.Common.{◌+◌, ◌≡◌, suc, Bool, Vec, Global, map, length, ap, ◌∙◌, arith}
use Rattle.wf_paths.specs.Path.{leads}
use Rattle.wf_paths.specs.Table.{edge_of, round, table}
use Rattle.wf_paths.proofs.TableLemmas.{same_lengths, round-table}
use Rattle.wf_paths.proofs.table.paths_of.Goals as goal

pub round-requires : goal.round-requires
round-requires c =
    let n = length c.args.nodes.now in
    let edge = edge_of (map (λ e. e.items) c.args.nodes.now) in
    λ j d within. same_lengths (λ (r : Vec Bool Global). r.items) c.loop-k.rows.items n c.loop-k.k
    (leads edge c.loop-k.k) c.loop-k.invariant
    (omega arith) j d within

pub loop-k-preserved : goal.loop-k-preserved
loop-k-preserved c =
    let n = length c.args.nodes.now in
    let k = c.loop-k.k in
    let edge = edge_of (map (λ e. e.items) c.args.nodes.now) in
    let one : suc k ≡ k + 1 = omega arith in
    c.in_ok-rows-2.ensures ∙ ap (λ t. round t k) c.loop-k.invariant ∙ round-table edge n k (omega arith)
    ∙ ap (λ m. table n (leads edge m)) one
