mod ParameterLemmas
mod RunLemmas
pub mod StartLemmas
mod WorkedRows
