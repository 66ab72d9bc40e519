pub mod Fitting
pub mod OfVal
pub mod ReadBack
pub mod Reading
pub mod RecordForm
