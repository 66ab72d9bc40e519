pub use Rattle.wf_known_laws.proofs.NameLemmas
pub use Rattle.wf_known_laws.proofs.HeldLemmas as OrderHeldLemmas
pub use Rattle.wf_known_laws.proofs.ReadLemmas
pub use Rattle.wf_known_laws.proofs.RunAfterLemmas
pub use Rattle.wf_meant.proofs.HeldLemmas
pub use Rattle.wf_meant.proofs.NumberLemmas
pub use Rattle.wf_meant.proofs.RoundLemmas
pub use Rattle.wf_meant.proofs.Terms
pub mod KeyLemmas
pub mod WalkLemmas
pub mod PlaceLemmas
