pub mod Escapes
pub mod Lines
pub mod Tap
pub mod Junit
pub mod TapSeen
pub mod Laws
