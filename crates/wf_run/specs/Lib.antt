pub use Rattle.wf_least.specs.Least
pub use Rattle.wf_runnable.specs.Checked
pub use Rattle.wf_runnable.specs.Record
pub use Rattle.wf_runnable.specs.Resubmitted
pub mod Seen
pub mod Made
pub mod Runs
