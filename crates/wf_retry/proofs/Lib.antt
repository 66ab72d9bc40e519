pub mod AgainRows
pub mod DurationLemmas
pub mod DurationRows
pub mod PolicyRows
