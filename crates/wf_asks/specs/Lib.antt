pub mod Instances
pub mod Statuses
pub mod Known
