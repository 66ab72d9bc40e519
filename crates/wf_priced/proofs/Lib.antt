pub mod ListedLemmas
pub mod BegunLemmas
pub mod TellsLemmas
pub mod RecordLemmas
pub mod OverLemmas
pub mod PaidLemmas
pub mod WithinLemmas
pub mod PricedRows
