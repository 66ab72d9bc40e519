mod ClosingRows
pub mod CloseLemmas
pub mod JudgedLemmas
