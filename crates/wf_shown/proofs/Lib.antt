pub mod FactLemmas
pub mod OnceLemmas
pub mod RowLemmas
pub mod SaidLemmas
mod Worked
