use Rattle.std.proofs.Common.{ap, ◌+◌, ◌∙◌}
use Rattle.wf_val.specs.ValueTree.{weight}
use Rattle.wf_environment.specs.Environment as environment
use Rattle.wf_paying.specs.Record.{depth_of, meaning}
use Rattle.wf_paying.specs.Source.{source, table_of}
use Rattle.wf_paying.proofs.AnswerLemmas.{answers_itself}
use Rattle.wf_paying.specs.Paying.{first_cost}
use Rattle.wf_one_stand.proofs.OneStand.{one_stand}
use Rattle.wf_one_stand.proofs.where_a_run_stands_is_one.Goals as goal

pub returns : goal.returns
returns c = λ d r none start inputs one other stands stands'.
    let e = environment.fresh start inputs in
    let rows = table_of d e (depth_of d) in
    let told = c.the_record_tells_what_rows_cost.ensures d r rows (c.meant_rows_are_whole.ensures d r none e) in
    one_stand d start inputs (c.a_definition_is_an_instance.ensures d r none e)
    (c.rows_pay_their_parts.ensures d r e (source d e) (answers_itself d e) rows) told.0 told.1 (weight (meaning d e).outputs)
    (c.a_meaning_costs_its_rows.ensures d e ∙ ap (λ n. first_cost start + weight (meaning d e).outputs + n) told.2) one other stands stands'
