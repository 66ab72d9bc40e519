pub use Rattle.wf_schema.proofs.PointerLemmas
mod ConditionRows
mod ContainerRows
mod InputRows
mod PartLemmas
mod SectionRows
mod TypeRows
mod WorkedSchemas
mod WorkedVariables
