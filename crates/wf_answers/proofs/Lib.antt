mod AddedLemmas
mod AnswerLemmas
mod DoubleLemmas
mod GatherLemmas
mod KeptLemmas
mod WorkedRows
