pub mod AmongLemmas
pub mod BelowLemmas
pub mod DrawnLemmas
pub mod KindLemmas
pub mod LevelBounds
pub mod LevelLemmas
pub mod NamesLemmas
pub mod OnceLemmas
pub mod RestLemmas
pub mod SaidLemmas
pub mod TotalLemmas
mod Worked
