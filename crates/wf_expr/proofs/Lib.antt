pub mod DraftLemmas
pub mod FrontLemmas
pub mod PieceLemmas
pub mod StackLemmas
pub mod WordLemmas
pub mod Residual
pub mod Forward
pub mod Backward
pub mod Keeps
pub mod Alive
pub mod Scans
pub mod ParseLemmas
pub mod TextLemmas
mod Rows
mod QuoteLemmas
mod Derivation
mod Rederivation
