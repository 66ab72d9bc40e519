pub mod TraceLemmas
pub mod DriveLemmas
