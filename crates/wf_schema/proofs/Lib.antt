pub use Rattle.wf_places.proofs.PointerLemmas
pub mod OwnLemmas
pub mod FlawLemmas
pub mod MismatchLemmas
mod FormRows
mod FailRows
