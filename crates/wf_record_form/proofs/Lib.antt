pub mod FittingLemmas
pub mod NeighbourLemmas
pub mod OrderLemmas
pub mod ReadBackLemmas
mod Worked
mod WorkedFitting
