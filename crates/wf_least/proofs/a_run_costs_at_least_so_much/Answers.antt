use Rattle.std.proofs.Common.{◌*◌, ◌≤◌, List, length, sum_by, arith, subst}
use Rattle.wf_layers.specs.Definition.{has_own}
use Rattle.wf_layers.proofs.Waiting.{own_has}
use Rattle.wf_def.specs.Names.{graph_names}
use Rattle.wf_record.specs.Cost.{row_cost}
use Rattle.wf_record.specs.Record.{RowTree}
use Rattle.wf_meant_laws.specs.Points.{graph_of}
use Rattle.wf_meant_laws.specs.Record.{depth_of, meaning}
use Rattle.wf_meant_laws.specs.References.{upto}
use Rattle.wf_meant_laws.specs.Source.{table_of}
use Rattle.wf_least.proofs.CountLemmas.{as_many, at_least}
use Rattle.wf_least.proofs.RowLemmas.{one_each, rows_cost, size_is, listed}
use Rattle.wf_least.proofs.a_run_costs_at_least_so_much.Goals as goal

pub returns : goal.returns
returns c = λ d read none e.
    let known = table_of d e (depth_of d) in
    let once = c.numbers_stand_once.ensures d read in
    let top = length (graph_names d.top) in
    let have = c.a_run_leaves_a_row_of_each_action.ensures d read none e in
    omega (
      arith,
      size_is d.top,
      subst (λ (rows : List RowTree). 64 * length rows ≤ sum_by row_cost (meaning d e).rows) (c.a_record_is_of_the_table.ensures.rows d e)
          (rows_cost (meaning d e).rows),
      as_many (graph_of d) top once (λ n own. c.numbers_are_below.ensures d read n (own_has (graph_of d) n own)),
      at_least (listed d once known have) (has_own (graph_of d)) (one_each d once known have) (upto top),
    )
