pub use Rattle.wf_meter.proofs.FewLemmas
pub mod MeteredLemmas
pub mod RestLemmas
