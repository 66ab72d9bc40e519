pub use Rattle.wf_def.specs.ActionTree
pub use Rattle.wf_def.specs.Address
pub use Rattle.wf_def.specs.declared.after.After
pub use Rattle.wf_def.specs.AllActions
pub use Rattle.wf_def.specs.DefTree
pub use Rattle.wf_def.specs.Definition
pub use Rattle.wf_def.specs.Layered
pub use Rattle.wf_def.specs.Meaning
pub use Rattle.wf_def.specs.Names
pub use Rattle.wf_def.specs.Redo
pub use Rattle.wf_def.specs.Resubmission
pub use Rattle.wf_def.specs.declared.sort.Sort
pub use Rattle.wf_def.specs.Source
pub use Rattle.wf_eval.specs.Uses as EvalUses
pub use Rattle.wf_eval.specs.Looked
pub use Rattle.wf_eval.specs.TemplateValue
pub use Rattle.wf_eval.specs.Told
pub use Rattle.wf_eval.specs.TreeValue
pub use Rattle.wf_eval.specs.Truth
pub use Rattle.wf_eval.specs.EvalExprUses as Uses
pub use Rattle.wf_reading.specs.Read
pub use Rattle.wf_reading.specs.declared.definition.RuleFault
pub use Rattle.wf_uses.specs.Seen as UsesSeen
pub use Rattle.wf_uses.specs.UsesTree
pub use Rattle.wf_reading.specs.ReadSeen
pub mod Seen
pub mod Sites
