mod EscapeLemmas
pub mod LineLemmas
mod XmlLemmas
mod PointLemmas
mod WholeLemmas
mod WorkedRows
