use Rattle.std.proofs.Common.{◌∙◌, option_map}
use Rattle.wf_answers.specs.InputsSeen.{inputs_tree}
use Rattle.wf_asks.specs.Known.{open_tree}
use Rattle.wf_trace.specs.DoneSeen.{begun_tree}
use Rattle.wf_doing.specs.Answering.{table_by}
use Rattle.wf_trace.specs.DecisionSeen.{decision_tree, verdict_tree}
use Rattle.wf_tables.specs.Tables.{leaf_tree}
use Rattle.wf_doing.specs.StartsSeen.{start_tree}
use Rattle.wf_doing.specs.ViewsSeen.{row_content}
use Rattle.wf_doing.specs.Seen.{definition_of}
use Rattle.wf_telling.proofs.ToldLemmas.{told_is}
use Rattle.wf_telling.proofs.event.tell.Goals as goal

pub returns : goal.returns
returns c =
    let setting = c.args.setting.now in
    let d = definition_of setting in
    let event = c.args.event.now in
    λ m answers number happened. c.in_ok-line.ensures
    ∙ told_is d (start_tree setting.start.now) (inputs_tree setting.inputs.now) m answers (table_by d m)
    (option_map (λ r. row_content r.now) c.args.row) (option_map (λ l. leaf_tree begun_tree l.now) c.args.leaf)
    (option_map (λ o. open_tree decision_tree verdict_tree o.now) c.args.container)
    event.kind event.instance.action event.instance.at number happened
