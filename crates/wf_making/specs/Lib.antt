pub use Rattle.wf_metered.specs.Kept
pub use Rattle.wf_metered.specs.declared.sums.Sums as MeteredSums
pub use Rattle.wf_metered.specs.Rest
pub use Rattle.wf_metered.specs.Shown
pub use Rattle.wf_metered.specs.Sums
pub mod Standing
pub mod Priced
