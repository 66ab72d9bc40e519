use Rattle.std.proofs.Common.{ℕ, ◌+◌, ◌*◌, ◌∙◌, ap, sym, length, nat_lt}
use Rattle.wf_def.proofs.ListLemmas.{tops_listed}
use Rattle.wf_runnable.specs.Runnable.{definition}
use Rattle.wf_run.proofs.LeastLemmas.{in_pieces}
use Rattle.wf_run.proofs.least.cost_too_much.Goals as goal

pub returns-clause-exact : goal.returns-clause-exact
returns-clause-exact c =
    in_pieces (1 + c.len-pieces.result) c.args.count c.saturating_mul.result c.saturating_mul.ensures
    ∙ ap (λ (n : ℕ). nat_lt 67108864 (64 * (1 + n) * c.args.count))
    (c.len-pieces.ensures.count ∙ ap length (sym (tops_listed c.args.checked.now.def.top)))

pub returns-clause-each : goal.returns-clause-each
returns-clause-each c =
    c.a_run_costs_at_least_so_much.ensures (definition c.args.checked.now) c.always_read.ensures c.always_checked.ensures.holds
