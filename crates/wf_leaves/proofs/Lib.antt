pub mod DataLemmas
pub mod ConditionLemmas
pub mod WorkedRows
pub mod WorkedSchemas
pub mod WorkedVariables
