pub use Rattle.wf_answered.specs.Answered
pub use Rattle.wf_answered.specs.Resubmitted
pub use Rattle.wf_doing.specs.Costs
pub use Rattle.wf_doing.specs.Places
pub use Rattle.wf_doing.specs.ViewsSeen as Seen
pub use Rattle.wf_doing.specs.Weights
pub use Rattle.wf_rules.specs.Broken
pub use Rattle.wf_rules.specs.declared.checked.Checked
pub mod Moment
pub mod Stands
