pub use Rattle.wf_data.proofs.Fitting
pub use Rattle.wf_data.proofs.Local
pub use Rattle.wf_data.proofs.RowParts
pub use Rattle.wf_data.proofs.WorkedExpressions
pub use Rattle.wf_data.proofs.WorkedLook
mod RowLemmas
mod GivenLemmas
mod SortRows
mod InitialRows
mod WritingRows
mod GivenRows
