use Rattle.std.proofs.Common.{◌≡◌, drop, map}
use Rattle.wf_plan.specs.PlanSeen.{lists_of}
use Rattle.wf_plan.specs.Walk.{added}
use Rattle.wf_plan.proofs.tables.add_entries.Given as goal

abbrev pub invariant-loop-entry : goal.invariant-loop-entry
invariant-loop-entry l =
    added (lists_of l.table.items) (map (λ e. e.number) (drop l.entry-index l.entry-items)) l.number
    ≡ added (lists_of l.fn.table.items) (map (λ e. e.number) l.after) l.number
