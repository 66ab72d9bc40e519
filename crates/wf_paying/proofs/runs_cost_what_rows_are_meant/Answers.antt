use Rattle.wf_turns.specs.Answering.{table_by}
use Rattle.wf_paying.proofs.RowLemmas.{priced}
use Rattle.wf_paying.proofs.runs_cost_what_rows_are_meant.Goals as goal

pub returns : goal.returns
returns c = λ d r none e m answered.
    let told = c.the_record_tells_what_rows_cost.ensures d r (table_by d m) answered.whole in
    priced d m (c.a_definition_is_an_instance.ensures d r none e).turns
    (c.rows_pay_their_parts.ensures d r e m answered.answers (table_by d m)) told.0 told.1 told.2
