pub mod Escapes
pub mod Encodings
pub mod Parts
pub mod Laws
