pub mod NamedLemmas
pub mod KeptLemmas
pub mod ReopenedLemmas
pub mod ChainLemmas
pub mod ApartLemmas
pub mod LineLemmas
pub mod LaterLemmas
pub mod LastLemmas
pub mod OverLemmas
pub mod StoreLemmas
pub mod FirstLemmas
mod FirstRows
