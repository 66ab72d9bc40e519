pub use Rattle.wf_meant.proofs.NumberLemmas
pub use Rattle.wf_meant.proofs.TellLemmas
pub use Rattle.wf_meant.proofs.Terms
pub mod VariableLemmas
pub mod ViewLemmas
pub mod NamedLemmas
pub mod LookLemmas
pub mod ItemLemmas
pub mod OpenedLemmas
pub mod CloseLemmas
pub mod AnswerLemmas
pub mod TestLemmas
pub mod WalkLemmas
pub mod PlacedLemmas
pub mod KindLemmas
pub mod SiteLemmas
pub mod ExactLemmas
pub mod DepthLemmas
mod EndLemmas
mod RuleLemmas
