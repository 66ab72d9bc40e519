pub mod Words
pub mod Rows
pub mod Timed
pub mod Draws
pub mod Collected
