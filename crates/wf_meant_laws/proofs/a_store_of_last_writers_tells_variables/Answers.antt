use Rattle.std.proofs.Common.{None}
use Rattle.wf_layers.specs.Address.{address}
use Rattle.wf_layers.specs.Definition.{Leaf, Until}
use Rattle.wf_layers.specs.Machine.{fresh}
use Rattle.wf_layers.proofs.Facts.{facts_of_states}
use Rattle.wf_layers.proofs.Store.{store_holds, stores_run}
use Rattle.wf_layers.proofs.Tests.{tests_in_order}
use Rattle.wf_layers.proofs.Variables.{variables_in_order}
use Rattle.wf_instance.specs.Points.{graph_of}
use Rattle.wf_instance.specs.Record.{depth_of}
use Rattle.wf_instance.specs.Source.{source, table_of}
use Rattle.wf_meant_laws.specs.Writers.{writes_to}
use Rattle.wf_meant_laws.proofs.AnswerLemmas.{answers_itself}
use Rattle.wf_meant_laws.proofs.a_store_of_last_writers_tells_variables.Goals as goal

pub returns : goal.returns
returns c = λ d r none e v es s writer stores.
    let g = graph_of d in
    let m = source d e in
    let rows = table_of d e (depth_of d) in
    let is = c.a_definition_is_an_instance.ensures d r none e in
    let whole = c.meant_rows_are_whole.ensures d r none e in
    let order = c.writers_are_in_one_order.ensures.readers d r none m rows whole.instances in
    let run = stores_run (graph_of d) (source d e) (writes_to d v) fresh es s None writer stores in
    let holds = store_holds (graph_of d) (source d e) (depth_of d) is (writes_to d v)
    (c.writers_are_in_one_order.ensures.writers d r none e m (answers_itself d e) rows whole.instances v) es s writer stores in record {
      decided = λ n i after kind dec a.
          c.the_last_writer_is_read.ensures.at_instances d r none m rows whole (address n i) v writer
          (holds.1 n i after kind dec (order v n i kind a.is a.instance a.accesses)) s.rows
          (λ y seen. (variables_in_order (graph_of d) (source d e) (depth_of d) is es s run).1 n i after kind dec y seen);
      running = λ n i w runs a.
          c.the_last_writer_is_read.ensures.at_instances d r none m rows whole (address n i) v writer
          (holds.3 n i w runs (order v n i Leaf a.is a.instance a.accesses)) s.rows
          (λ y seen. (facts_of_states (graph_of d) (source d e) (depth_of d) is es s run).before_running (address n i) w runs y seen);
      tested = λ n i after most h w j there opened may a.
          c.the_last_writer_is_read.ensures.at_tests d r none m rows whole n i most h j a.is a.instance v writer
          (holds.2 n i after most h w j there opened may (order v n i (Until most h) a.is a.instance a.accesses)) s.rows
          (λ y seen. (tests_in_order (graph_of d) (source d e) (depth_of d) is es s run n i after most h w j there opened may).1 y seen);
    }
