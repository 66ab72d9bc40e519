pub use Rattle.wf_varorder.proofs.NumberLemmas
pub use Rattle.wf_varorder.proofs.TurnLemmas
mod ToldLemmas
mod PairLemmas
mod WorkedSeveral
mod RowWords
mod WorkedNames
mod WorkedLoops
mod WorkedVariables
mod WorkedSites
mod WorkedPairs
