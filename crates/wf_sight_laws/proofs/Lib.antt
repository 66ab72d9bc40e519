pub use Rattle.wf_meant_laws.proofs.KindLemmas
pub use Rattle.wf_meant_laws.proofs.RangeLemmas
pub use Rattle.wf_meant_laws.proofs.WriterLemmas
pub use Rattle.wf_sight.proofs.LoopLemmas
pub mod NumberLemmas
pub mod RowLemmas
pub mod OrderLemmas
pub mod LastLemmas
pub mod OpenLemmas
pub mod LookLemmas
pub mod DoneLemmas
pub mod TrackedLemmas
pub mod OutputLemmas
mod WriteRows
