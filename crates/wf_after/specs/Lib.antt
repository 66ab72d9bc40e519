pub use Rattle.wf_json.specs.Json
pub use Rattle.wf_json.specs.Pointer
pub mod Entries
pub mod Waits
