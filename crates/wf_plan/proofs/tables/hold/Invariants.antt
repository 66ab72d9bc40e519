use Rattle.std.proofs.Common.{◌≡◌, drop}
use Rattle.wf_plan.specs.Walk.{held}
use Rattle.wf_plan.proofs.tables.hold.Given as goal

abbrev pub invariant-loop-number : goal.invariant-loop-number
invariant-loop-number l = held l.table.items (drop l.number-index l.numbers) l.holder ≡ held l.fn.table.items l.numbers l.holder
