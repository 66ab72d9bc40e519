pub use Rattle.wf_instance.proofs.CloseLemmas
pub use Rattle.wf_instance.proofs.ExactLemmas
pub use Rattle.wf_instance.proofs.KindLemmas
pub use Rattle.wf_instance.proofs.NumberLemmas
pub use Rattle.wf_instance.proofs.Terms
pub mod AnswerLemmas
pub mod ListLemmas
pub mod PointLemmas
pub mod LastLemmas
pub mod SeeingLemmas
pub mod WriterLemmas
pub mod AccessLemmas
pub mod GivesLemmas
pub mod NewLemmas
pub mod RangeLemmas
pub mod WholeLemmas
pub mod ListedLemmas
mod WriterRows
