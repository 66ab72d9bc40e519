use Rattle.std.proofs.Common.{ap, sym, ◌∙◌}
use Rattle.wf_def.specs.ActionSeen.{action_tree}
use Rattle.wf_record.specs.Seen.{record_tree}
use Rattle.wf_shaped.specs.Least.{is_under}
use Rattle.wf_shaped.specs.Told.{indexes_inside}
use Rattle.wf_shaped.proofs.MissingLemmas.{name_is, none_of_name}
use Rattle.wf_shaped.proofs.missing.missing_of.Goals as goal

pub returns-then-is_under : goal.returns-then-is_under
returns-then-is_under c =
    sym (none_of_name (record_tree c.args.log.now).rows c.args.least.address (action_tree c.args.action.now)
    (indexes_inside c.args.at.now c.args.turns)
    (ap (is_under c.args.least.address) (sym (name_is c.args.action.now)) ∙ (sym c.is_under.ensures ∙ c.if-is_under.true)))
