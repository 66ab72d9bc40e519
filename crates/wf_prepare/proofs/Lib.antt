pub use Rattle.wf_shaped.proofs.Terms
mod NamedLemmas
mod FailingLemmas
mod IdleLemmas
mod ShapeLemmas
pub mod RefusedLemmas
mod ChosenLemmas
mod OldLemmas
mod WholeLemmas
mod TellLemmas
mod KeptLemmas
mod ComeLemmas
mod HoldLemmas
mod InitialLemmas
mod TypedLemmas
mod MeantLemmas
mod EachLemmas
mod BackLemmas
mod WorkedPrepared
