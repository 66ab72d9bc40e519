pub use Rattle.wf_json.specs.FaultText
pub mod Cost
pub mod Line
pub mod Record
pub mod Seen
pub mod Worked
