pub use Rattle.wf_order.proofs.HeldLemmas
pub use Rattle.wf_order.proofs.OrderLaws
pub use Rattle.wf_order.proofs.RelationLemmas
pub use Rattle.wf_reading.proofs.NameLemmas
pub use Rattle.wf_reading.proofs.PartLemmas
pub use Rattle.wf_reading.proofs.ReadLemmas
pub use Rattle.wf_reading.proofs.RunAfterLemmas
mod WalkLemmas
mod EachLemmas
mod LevelLemmas
mod NumberLemmas
mod LayeredLemmas
mod WholeDepthLemmas
mod ReadGraphLemmas
mod DefinitionLemmas
mod AcceptedLemmas
mod WorkedRows
