pub use Rattle.wf_kinds.specs.ActionType
pub use Rattle.wf_kinds.specs.Containers
pub use Rattle.wf_kinds.specs.declared.action_type.ActionType as KindsActionType
pub use Rattle.wf_kinds.specs.Parts
pub mod Texts
pub mod Conditions
pub mod Options
pub mod Leaves
