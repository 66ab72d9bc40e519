pub use Rattle.wf_kept.proofs.Counts
pub use Rattle.wf_kept.proofs.Followers
pub use Rattle.wf_kept.proofs.Informed
pub use Rattle.wf_kept.proofs.Known as KeptKnown
pub use Rattle.wf_plan.proofs.ExactLemmas
pub use Rattle.wf_plan.proofs.GraphLemmas
pub mod TableLemmas
pub mod CountLemmas
pub mod OpenLemmas
pub mod BlockLemmas
pub mod TableRows
