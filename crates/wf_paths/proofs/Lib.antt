pub mod MarkLemmas
pub mod PathLemmas
pub mod TableLemmas
pub mod WorkedRows
