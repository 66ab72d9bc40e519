pub use Rattle.wf_reading.proofs.PartLemmas
pub use Rattle.wf_reading.proofs.RunAfterLemmas
mod ChainLemmas
mod LoopLemmas
pub mod NumberLemmas
mod SiteLemmas
pub mod UseWords
mod WorkedRows
mod WorkedUses
