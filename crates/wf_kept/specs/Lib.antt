pub mod Reached
pub mod Stored
pub mod Counted
pub mod Event
pub mod Ready
pub mod Quiet
pub mod Taken
