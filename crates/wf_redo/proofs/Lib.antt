pub mod Redoes
pub mod Sets
mod WorkedSets
