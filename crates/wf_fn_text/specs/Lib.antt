pub mod Joining
pub mod Parts
pub mod Pieces
pub mod Places
pub mod Cases
pub mod Laws
