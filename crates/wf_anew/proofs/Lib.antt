pub mod RanLemmas
pub mod LoopLemmas
pub mod NameLemmas
pub mod TableLemmas
pub mod ToldLemmas
pub mod AnswerLemmas
pub mod LayerLemmas
pub mod TrackedLemmas
pub mod RecordLemmas
pub mod AskedLemmas
pub mod FreshLemmas
pub mod KnownLemmas
pub mod RedoneLemmas
pub mod OldLemmas
mod WorkedRows
pub mod AlikeLemmas
pub mod ReadLemmas
pub mod StandLemmas
