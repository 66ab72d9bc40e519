use Rattle.std.proofs.Common.{◌≡◌, IfOk, Option, subst}
use Rattle.wf_def.specs.ActionTree.{ActionTree}
use Rattle.wf_catalog.specs.ReadSeen.{def_tree}
use Rattle.wf_record.specs.Seen.{record_tree, row_tree}
use Rattle.wf_shaped.specs.Failing.{told_by_action}
use Rattle.wf_shaped.specs.Least.{least_from}
use Rattle.wf_shaped.specs.declared.least.Least.{Least}
use Rattle.wf_shaped.proofs.shape.with_row.Goals as goal

pub returns : goal.returns
returns c =
    subst (λ (o : Option ActionTree). IfOk c.with_named.result (λ (l : Least). l.address ≡ least_from c.args.least.address
    (told_by_action (def_tree c.args.ways.now) (record_tree c.args.log.now).rows (row_tree c.args.row.now) o)))
    c.named-action.ensures c.with_named.ensures
