pub use Rattle.wf_trace.specs.Told
pub mod Lines
pub mod Telling
