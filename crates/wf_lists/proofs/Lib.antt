pub mod KeyOrderLemmas
pub mod WorkedRows
