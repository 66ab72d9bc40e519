pub mod WayLemmas
pub mod FitLemmas
mod WorkedFits
