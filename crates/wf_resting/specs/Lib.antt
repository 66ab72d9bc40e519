pub use Rattle.wf_enter.specs.Begun
pub use Rattle.wf_enter.specs.Entered
pub use Rattle.wf_enter.specs.declared.edits.Entering
pub use Rattle.wf_enter.specs.Graphs
pub mod Resting
