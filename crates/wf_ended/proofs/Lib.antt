pub mod ListedLemmas
pub mod TableLemmas
pub mod NameLemmas
pub mod RowLemmas
pub mod FirstLemmas
pub mod TopLemmas
pub mod LeftLemmas
mod LeftRows
