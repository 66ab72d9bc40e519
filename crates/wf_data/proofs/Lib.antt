pub use Rattle.wf_eval.proofs.EvalExprFitting as Fitting
pub use Rattle.wf_eval.proofs.EvalExprLocal as Local
pub use Rattle.wf_eval.proofs.WorkedExpressions
pub use Rattle.wf_eval.proofs.WorkedLook
pub mod RowParts
mod SimpleRows
mod ListRows
mod ParsedRows
mod SpelledLemmas
