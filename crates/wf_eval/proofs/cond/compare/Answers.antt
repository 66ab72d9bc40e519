use Rattle.std.proofs.lemmas.Result.{err_from_is_err_and}
use Rattle.wf_template.specs.DataSeen.{data_tree}
use Rattle.wf_eval.proofs.CondLoops.{fault_left}
use Rattle.wf_eval.proofs.cond.compare.Goals as goal

pub returns-in_err-one-clause-truth : goal.returns-in_err-one-clause-truth
returns-in_err-one-clause-truth g c =
    let p = err_from_is_err_and c.from_residual.result c.from_residual.ensures.1 in
    rw (p.1, p.2) (fault_left c.args.function (g.L.Look.told c.args.look.now) (data_tree c.args.left.now) (data_tree c.args.right.now)
    (g.L.Look.drawn c.args.look.now) _ _ c.in_err-one.ensures.value)
