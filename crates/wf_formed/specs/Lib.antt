pub mod Formed
pub mod Surroundings
pub mod Known
