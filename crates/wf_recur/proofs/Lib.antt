pub mod MultipleLemmas
pub mod MonthLemmas
pub mod TimetableLemmas
pub mod NextLemmas
pub mod SameLemmas
pub mod ListedLemmas
pub mod ReadLemmas
mod Worked
