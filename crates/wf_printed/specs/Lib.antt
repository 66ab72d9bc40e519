pub mod Written
pub mod Resubmission
pub mod Measured
