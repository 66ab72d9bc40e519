pub use Rattle.wf_events.proofs.LookLemmas
pub mod EnteredLemmas
pub mod MadeLemmas
pub mod EnterRows
