pub use Rattle.wf_loops.proofs.EarlierLemmas
pub use Rattle.wf_loops.proofs.FewLemmas
pub use Rattle.wf_loops.proofs.HeldLemmas
pub use Rattle.wf_loops.proofs.InsideLemmas
pub use Rattle.wf_loops.proofs.LeftLemmas
pub use Rattle.wf_loops.proofs.PrefixLemmas
pub use Rattle.wf_loops.proofs.RoundLemmas
pub use Rattle.wf_refs.proofs.NumberLemmas
pub mod TellLemmas
pub mod Terms
mod ContainerRows
mod LoopRows
mod VariableRows
mod CallRows
mod EndingRows
mod ResubmissionRows
mod PartRows
