mod WorkedRows
pub mod ListLemmas
pub mod SideLemmas
pub mod EditLemmas
pub mod KeyLemmas
pub mod KeptLemmas
pub mod TakenLemmas
pub mod PlaceLemmas
