pub mod Json
pub mod Pointer
pub mod Follow
pub mod Read
pub mod Found
pub mod Sent
pub mod Tokens
pub mod FaultText
