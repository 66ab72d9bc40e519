pub use Rattle.wf_loops.proofs.FewLemmas
pub use Rattle.wf_loops.proofs.HeldLemmas
pub use Rattle.wf_loops.proofs.InsideLemmas
pub use Rattle.wf_loops.proofs.RoundLemmas as LoopsRoundLemmas
pub use Rattle.wf_loops.proofs.PrefixLemmas
pub mod BackLemmas
pub mod RoundLemmas
pub mod RowLemmas
pub mod LeafLemmas
pub mod StandLemmas
pub mod BothLemmas
pub mod InnerLemmas
mod TurnRows
