pub use Rattle.wf_eval_expr.specs.Uses
pub mod Named
pub mod Seen
pub mod UsesTree
