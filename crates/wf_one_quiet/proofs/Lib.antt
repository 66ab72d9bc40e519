pub mod Gates
pub mod Paths
pub mod Ahead
pub mod Passed
pub mod Taken
pub mod One
