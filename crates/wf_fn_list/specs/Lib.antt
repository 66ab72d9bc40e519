pub mod Parts
pub mod Chunks
pub mod Membership
pub mod Making
pub mod Ranges
pub mod Members
