use Rattle.std.proofs.Common.{arith}
use Rattle.wf_making.proofs.making.MakingMachine.cost.Goals as goal

pub returns : goal.returns
returns g c =
    let first = rw (c.acts.ensures, c.state-kept.ensures) at c.first_cost-first.ensures in
    let so_far = c.so_far.ensures in
    let all = c.saturating_add.ensures in omega (arith, first, so_far, all)
