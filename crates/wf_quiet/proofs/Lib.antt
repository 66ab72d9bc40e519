pub mod Answered
pub mod More
pub mod Ready
pub mod Staying
pub mod Stored
pub mod Wanted
pub mod Example
