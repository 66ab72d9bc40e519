pub use Rattle.wf_events.specs.EventAt
pub use Rattle.wf_events.specs.EventKind
pub use Rattle.wf_events.specs.LeafAt
pub use Rattle.wf_events.specs.Tables
pub mod Shown
pub mod Kept
pub mod Rest
