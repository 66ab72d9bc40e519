pub use Rattle.wf_known_laws.proofs.RelationLemmas
mod ActionLemmas
mod SeenLemmas
mod RoundLemmas
mod InstanceLemmas
mod LoopLemmas
mod PairLemmas
mod VariableLemmas
mod EndLemmas
