pub use Rattle.wf_done.specs.declared.leaf.Begun
pub use Rattle.wf_done.specs.DoneSeen
pub use Rattle.wf_done.specs.Leaf
pub use Rattle.wf_opening.specs.DecisionSeen
pub use Rattle.wf_opening.specs.Decisions
pub use Rattle.wf_opening.specs.Verdicts
pub mod Texts
pub mod Told
