pub use Rattle.wf_def.proofs.SizeLemmas
pub use Rattle.wf_standing.proofs.NumberLemmas
pub use Rattle.wf_standing.proofs.StandingLemmas
pub mod LeastLemmas
pub mod TurnLemmas
pub mod SettledLemmas
pub mod OrderedLemmas
pub mod LeastPairLaws
mod WorkedRows
