pub use Rattle.wf_meant_laws.proofs.AnswerLemmas
mod KeptLemmas
mod PartLemmas
mod RowLemmas
mod PayingRows
