pub use Rattle.wf_order.proofs.RelationLemmas
pub mod PrefixLemmas
pub mod NameLemmas
pub mod TurnLemmas
pub mod EarlierLemmas
pub mod InsideLemmas
pub mod LeftLemmas
pub mod RoundLemmas
pub mod HeldLemmas
pub mod FewLemmas
mod LoopRows
