pub mod Changes
pub mod Counts
pub mod Facts
pub mod Looks
pub mod Once
pub mod Rows
