use Rattle.std.proofs.Common.{◌≡◌, true, [], Option, Some, None, refl, sym, true≢false}
use Rattle.wf_layers.specs.Address.{address}
use Rattle.wf_layers.specs.Called.{runs}
use Rattle.wf_layers.specs.Machine.{has_ended, top}
use Rattle.wf_layers.proofs.Basics.{and_of}
use Rattle.wf_layers.proofs.Laws.{rows_where_called_for}
use Rattle.wf_layers.proofs.Waiting.{own_has}
use Rattle.wf_meant_laws.specs.Points.{graph_of}
use Rattle.wf_meant_laws.specs.Record.{depth_of}
use Rattle.wf_meant_laws.specs.Source.{source, table_of}
use Rattle.wf_record.specs.Record.{Row}
use Rattle.wf_least.proofs.RowLemmas.{own_in}
use Rattle.wf_least.proofs.a_run_leaves_a_row_of_each_action.Goals as goal

is_some : (o : Option Row) → has_ended o ≡ true → (row : Row) × (o ≡ Some row)
is_some None is = absurd (true≢false (sym is))
is_some (Some row) is = (row, refl)

pub returns : goal.returns
returns c = λ d read none e n own.
    let is = c.a_definition_is_an_instance.ensures d read none e in
    let called = rows_where_called_for (graph_of d) (source d e) (depth_of d) is.falls is.local is.own (address n []) (and_of _ _ (own_has (graph_of d) n own) refl) in
    let stands = own_in (graph_of d) n own in
    is_some (table_of d e (depth_of d) (address n [])) (called.0 (runs top stands.2))
