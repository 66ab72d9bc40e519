use Rattle.std.proofs.Common.{arith}
use Rattle.wf_plan.proofs.TableLemmas.{lists_past}
use Rattle.wf_plan.proofs.tables.add.Goals as goal

pub returns-else-place-len : goal.returns-else-place-len
returns-else-place-len c = lists_past c.args.table.now.items c.args.place c.args.number
    (omega (arith, c.if-place-len.false, c.len.ensures, c.args.table.now.ok.0))
