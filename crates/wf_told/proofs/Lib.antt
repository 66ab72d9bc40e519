pub mod TextLemmas
pub mod WrittenLemmas
pub mod AlikeLemmas
pub mod RunLemmas
pub mod ResubmissionLemmas
pub mod IdleLemmas
pub mod MeasureLemmas
mod RunRows
mod ResubmissionRows
mod WorkedRows
