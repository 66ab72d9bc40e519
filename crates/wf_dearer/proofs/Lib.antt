pub mod GoesOnLemmas
pub mod JoinLemmas
pub mod CostLemmas
pub mod StateCostRows
