pub mod HeldLemmas
pub mod LoopLemmas
pub mod OpenLemmas
pub mod ItemLemmas
pub mod TellLemmas
pub mod ToldLemmas
pub mod FoundLemmas
mod PlaceLemmas
mod SightRows
