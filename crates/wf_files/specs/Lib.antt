pub use Rattle.wf_rules.specs.Broken
pub use Rattle.wf_rules.specs.declared.checked.Checked
pub mod Fault
pub mod Form
pub mod Seen
