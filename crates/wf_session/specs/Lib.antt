pub mod Begun
pub mod Waiting
pub mod Settled
pub mod Stood
pub mod Conversed
