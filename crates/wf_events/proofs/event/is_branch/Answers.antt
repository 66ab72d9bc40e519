use Rattle.std.proofs.Common.{arith, nat_le, sym, ap, ◌∙◌}
use Rattle.std.proofs.lemmas.List.{length-map}
use Rattle.wf_tables.specs.PlanSeen.{branch_tree, branches_seen}
use Rattle.wf_events.proofs.EventLemmas.{branch_not, branch_up_to}
use Rattle.wf_events.proofs.event.is_branch.Goals as goal

pub returns-then-taken-ge1 : goal.returns-then-taken-ge1
returns-then-taken-ge1 c =
    ap (nat_le c.args.taken) (sym (length-map c.args.branches.now branch_tree))
    ∙ branch_up_to (branches_seen c.args.branches.now) c.args.taken (let from = c.if-taken-ge1.true in omega (arith, from))

pub returns-else-taken-ge1 : goal.returns-else-taken-ge1
returns-else-taken-ge1 c =
    branch_not (branches_seen c.args.branches.now) c.args.taken (let below = c.if-taken-ge1.false in omega (arith, below))
