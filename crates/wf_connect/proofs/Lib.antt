mod AttemptRows
mod LastLemmas
mod LastRows
