pub mod Arithmetic
pub mod Extremes
pub mod Comparison
pub mod Conversion
