pub mod Quiet
pub mod Example
