pub use Rattle.wf_look.proofs.WorkedLook
pub mod Meeting
pub mod Grow
pub mod Loops
mod Chains
pub mod MeasuredLemmas
mod JoinedLemmas
pub mod Fitting
mod FoldLemmas
mod CollectedLemmas
mod FoldsLemmas
pub mod Local
mod MomentsAndWords
pub mod WorkedExpressions
mod WorkedFunctions
mod WorkedCalls
mod Worked
