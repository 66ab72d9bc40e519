mod DrillRows
pub mod FormLemmas
pub mod SizeLemmas
pub mod NameLemmas
