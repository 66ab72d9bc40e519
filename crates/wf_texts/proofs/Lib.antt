pub mod CallLemmas
mod PlaceRows
mod ReachedLemmas
pub mod TextLemmas
mod TextRows
