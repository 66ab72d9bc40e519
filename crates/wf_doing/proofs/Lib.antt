mod AnswerLemmas
mod AttemptLemmas
mod HaltingLemmas
mod JudgedLemmas
mod PartLemmas
mod SourceLemmas
mod VariableLemmas
mod DoingRows
