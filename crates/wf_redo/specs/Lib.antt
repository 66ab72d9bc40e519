pub mod Redoes
pub mod Sets
