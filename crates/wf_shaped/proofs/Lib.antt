pub use Rattle.wf_catalog.proofs.NameLemmas
pub use Rattle.wf_catalog.proofs.NumberLemmas
pub use Rattle.wf_catalog.proofs.ReadLemmas
pub use Rattle.wf_catalog.proofs.RunAfterLemmas
pub use Rattle.wf_catalog.proofs.Terms
pub mod ListLemmas
pub mod LeastLemmas
mod MissingLemmas
pub mod HeldLemmas
pub mod ExactLemmas
pub mod KnownLemmas
mod WorkedShape
