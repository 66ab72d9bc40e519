pub use Rattle.wf_meter.specs.Cost
pub use Rattle.wf_meter.specs.LeafAt
pub use Rattle.wf_meter.specs.PlanSeen
pub use Rattle.wf_meter.specs.Tables
pub use Rattle.wf_steps.specs.Kept
pub use Rattle.wf_steps.specs.Rest
pub use Rattle.wf_steps.specs.Shown
pub mod Sums
