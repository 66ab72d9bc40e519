pub use Rattle.wf_layers.proofs.Basics
pub use Rattle.wf_layers.proofs.Changes
pub use Rattle.wf_layers.proofs.Tables
pub use Rattle.wf_layers.proofs.Waiting
pub mod LayeredRows
pub mod ListLemmas
pub mod SizeLemmas
mod SortRows
