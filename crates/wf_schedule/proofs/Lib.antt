pub mod LineLemmas
mod WorkedRows
