pub use Rattle.wf_expr.specs.Kinds
pub use Rattle.wf_expr.specs.Text
pub use Rattle.wf_expr.specs.WordTests
pub use Rattle.wf_kinds.specs.ActionType
pub use Rattle.wf_kinds.specs.declared.action_type.ActionType as KindsActionType
pub use Rattle.wf_kinds.specs.Members as KindsMembers
pub use Rattle.wf_kinds.specs.Parts
pub mod Bad
pub mod Calls
pub mod Members
pub mod Reached
pub mod Sound
