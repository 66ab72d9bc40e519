pub use Rattle.wf_sight_laws.specs.Writes
pub mod Ended
pub mod First
pub mod Left
pub mod LeftSeen
pub mod Found
