pub mod SaysLemmas
mod WorkedSays
