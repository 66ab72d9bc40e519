pub use Rattle.wf_eval_expr.proofs.Fitting as EvalExprFitting
pub use Rattle.wf_eval_expr.proofs.Local as EvalExprLocal
pub use Rattle.wf_eval_expr.proofs.WorkedExpressions
pub use Rattle.wf_eval_expr.proofs.WorkedLook
mod PieceLoops
mod TreeLoops
mod CondLoops
mod Fitting
mod Local
mod Worked
