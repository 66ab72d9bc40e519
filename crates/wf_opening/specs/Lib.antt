pub mod Branches
pub mod Decisions
pub mod DecisionSeen
pub mod Uses
pub mod Verdicts
