pub mod CallLemmas
pub mod FailLemmas
pub mod StandLemmas
pub mod WayLemmas
mod WorkedWays
