use Rattle.std.proofs.Common.{◌≡◌, IfOk, subst}
use Rattle.wf_def.specs.ActionSeen.{action_tree}
use Rattle.wf_catalog.specs.ReadSeen.{def_tree}
use Rattle.wf_record.specs.Seen.{record_tree, row_tree}
use Rattle.wf_shaped.specs.Failing.{told_judged}
use Rattle.wf_shaped.specs.Least.{least_from}
use Rattle.wf_shaped.specs.declared.judged.Judged.{Judged}
use Rattle.wf_shaped.specs.declared.least.Least.{Least}
use Rattle.wf_shaped.proofs.shape.with_judged.Goals as goal

pub returns : goal.returns
returns c =
    subst (λ (j : Judged). IfOk c.with_judgement.result (λ (l : Least). l.address ≡ least_from c.args.least.address
    (told_judged (def_tree c.args.ways.now) (record_tree c.args.log.now).rows (row_tree c.args.row.now) (action_tree c.args.action.now) j)))
    c.in_ok-judged.ensures c.with_judgement.ensures
