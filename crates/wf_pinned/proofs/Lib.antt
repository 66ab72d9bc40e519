pub use Rattle.wf_meant_laws.proofs.RangeLemmas
pub mod LoopLemmas
pub mod PinnedLemmas
mod OldRows
