pub use Rattle.wf_enter.proofs.EnteredLemmas
pub use Rattle.wf_enter.proofs.MadeLemmas
pub mod RestingLemmas
pub mod RestingRows
