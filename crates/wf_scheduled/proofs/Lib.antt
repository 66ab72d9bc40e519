pub mod ListLemmas
pub mod TurnLemmas
pub mod NumberLemmas
pub mod HappenedLemmas
pub mod RunningLemmas
pub mod WorkedRows
