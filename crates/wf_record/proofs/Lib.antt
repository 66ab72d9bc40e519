pub mod CostLemmas
pub mod FoundLemmas
pub mod LineLemmas
pub mod PlainLemmas
mod Rows
pub mod ShortLemmas
