pub mod First
pub mod Kept
pub mod Reopened
pub mod Last
