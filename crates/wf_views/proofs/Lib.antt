pub use Rattle.wf_catalog.proofs.HeldLemmas
pub use Rattle.wf_catalog.proofs.OrderHeldLemmas
pub use Rattle.wf_catalog.proofs.RoundLemmas
pub use Rattle.wf_catalog.proofs.Terms
pub mod ViewLemmas
