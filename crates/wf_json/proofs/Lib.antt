pub mod PointerLemmas
mod FlawLemmas
mod FoundLemmas
mod FollowLemmas
mod ShallowLemmas
mod EntryLemmas
mod GrammarLemmas
mod ReadLemmas
mod SentLemmas
mod StraightLemmas
mod PrintLemmas
mod ReadBackLemmas
mod WholeLemmas
mod WorkedRows
