pub mod Placed
pub mod Entered
pub mod Idle
pub mod EditRows
