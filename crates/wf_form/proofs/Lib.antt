pub mod WalkLemmas
mod NameLemmas
mod WorkedRows
mod WorkedSchemas
mod WorkedVariables
