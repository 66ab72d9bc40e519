pub mod BehindLemmas
pub mod PieceLemmas
pub mod RunningLemmas
pub mod SafeLemmas
pub mod NestedLemmas
pub mod StillLemmas
mod Rows
