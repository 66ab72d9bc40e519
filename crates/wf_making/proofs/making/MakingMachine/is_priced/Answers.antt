use Rattle.std.proofs.Common.{arith}
use Rattle.wf_metered.proofs.FewLemmas.{taken_paid}
use Rattle.wf_making.proofs.making.MakingMachine.is_priced.Goals as goal

pub returns-clause-within : goal.returns-clause-within
returns-clause-within g c =
    let k = c.args.self.now in
    let paid = rw (c.acts-acts.ensures, c.state-kept.ensures) at c.is_paid.ensures.priced in
    let reached = rw c.state-kept.ensures at c.is_reached.ensures in
    let rows = rw c.state-kept.ensures at c.is_listed.ensures.rows in
    let running = rw c.state-kept.ensures at c.is_listed.ensures.running in
    let containers = rw c.state-kept.ensures at c.is_listed.ensures.opens in
    let within = paid.within k.1.0 k.1.1.0 k.1.1.1.0 reached rows running containers in omega (arith, within)

pub returns-clause-whole : goal.returns-clause-whole
returns-clause-whole g c = λ over.
    let k = c.args.self.now in
    let paid = rw (c.acts-acts.ensures, c.state-kept.ensures) at c.is_paid.ensures.priced in
    let reached = rw c.state-kept.ensures at c.is_reached.ensures in
    let rows = rw c.state-kept.ensures at c.is_listed.ensures.rows in
    let running = rw c.state-kept.ensures at c.is_listed.ensures.running in
    let containers = rw c.state-kept.ensures at c.is_listed.ensures.opens in
    let whole = paid.whole k.1.0 k.1.1.0 k.1.1.1.0 reached rows running containers over in omega (arith, whole)

pub returns-clause-few : goal.returns-clause-few
returns-clause-few g c = λ n taken.
    let a = g.A.Acts in
    let k = c.args.self.now in
    let reached = rw c.state-kept.ensures at c.is_reached.ensures in
    let rows = rw c.state-kept.ensures at c.is_listed.ensures.rows in
    let running = rw c.state-kept.ensures at c.is_listed.ensures.running in
    let containers = rw c.state-kept.ensures at c.is_listed.ensures.opens in
    let told = rw (c.acts-acts.ensures, c.state-kept.ensures) at c.is_instance.ensures.told in
    let priced = rw (c.acts-acts.ensures, c.state-kept.ensures) at c.is_instance.ensures.priced in
    let least = rw (c.acts-acts.ensures, c.state-kept.ensures) at c.is_paid.ensures.least in
    let few = taken_paid a.row_tree a.begun_tree a.decision_tree a.verdict_tree (a.graph k.0) (a.depth k.0) (a.source k.0) k.1.0 k.1.1.0
    k.1.1.1.0 reached rows running containers (a.weight_of_decision k.0) (a.turns k.0) told (a.cost_of_row k.0) priced
    (a.weight_of_begun k.0) n taken in
    omega (arith, few, least)
