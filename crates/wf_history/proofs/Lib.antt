pub mod FindLemmas
pub mod ListLemmas
mod Worked
