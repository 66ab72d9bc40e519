pub use Rattle.wf_json.specs.FaultText
pub use Rattle.wf_json.specs.Follow
pub use Rattle.wf_json.specs.Json
pub use Rattle.wf_json.specs.Pointer
pub mod Amiss
pub mod Form
pub mod Least
