pub mod Way
pub mod Along
pub mod CalledBy
pub mod FailsBy
