pub mod ExtremesLemmas
pub mod ComparisonLemmas
pub mod ConversionLemmas
pub mod LawLemmas
pub mod ArithmeticRows
pub mod ExtremesRows
pub mod ComparisonRows
pub mod ConversionRows
