pub use Rattle.wf_meant.proofs.NumberLemmas
pub use Rattle.wf_meant.proofs.Terms
pub mod SourceLemmas
mod FoundLemmas
mod RangeLemmas
mod TurnLemmas
mod AnswerLemmas
mod ReadLemmas
mod BackLemmas
mod TurnRows
mod ReadRows
