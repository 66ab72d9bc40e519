pub use Rattle.wf_def.proofs.Basics
pub use Rattle.wf_def.proofs.Tables
pub mod FillLemmas
pub mod OrderLaws
pub mod PlaceLemmas
pub mod RelationLemmas
pub mod WalkLemmas
pub mod WorkedRows
pub mod SeenLaws
pub mod InsideLaws
pub mod TurnLaws
pub mod ExcludedLaws
pub mod HeldLemmas
pub mod AccessLaws
pub mod LoopLaws
mod WorkedTurns
