pub use Rattle.wf_refs.proofs.NumberLemmas
pub use Rattle.wf_refs.proofs.PartLemmas
pub use Rattle.wf_refs.proofs.RunAfterLemmas
pub mod TableLemmas
