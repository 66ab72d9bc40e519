pub use Rattle.wf_eval_expr.specs.Uses as EvalExprUses
pub use Rattle.wf_eval_expr.specs.Looked
pub use Rattle.wf_eval_expr.specs.Outcomes
pub use Rattle.wf_eval_expr.specs.Rows
pub use Rattle.wf_eval_expr.specs.Told
pub use Rattle.wf_eval_expr.specs.Args
pub mod TemplateValue
pub mod TreeValue
pub mod Truth
pub mod Uses
