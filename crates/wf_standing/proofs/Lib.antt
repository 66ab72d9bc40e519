pub use Rattle.wf_use_table.proofs.NumberLemmas
pub use Rattle.wf_use_table.proofs.PartLemmas
pub use Rattle.wf_use_table.proofs.RunAfterLemmas
pub mod StandingLemmas
mod NameLemmas
mod InitialLemmas
mod WorkedRows
