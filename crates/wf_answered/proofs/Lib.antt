mod LastLemmas
mod SourceLemmas
mod WorkedRows
