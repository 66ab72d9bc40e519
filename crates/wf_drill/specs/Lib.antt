pub mod Calls
pub mod Drill
pub mod Seen
