pub mod ChosenLemmas
pub mod LeastLemmas
pub mod RefusedLemmas
mod WorkedRefusals
