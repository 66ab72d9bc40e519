pub mod RowParts
mod DoneRows
mod LeafRows
mod EndRows
mod TrackedRows
mod UsesRows
mod FitLemmas
mod LocalLemmas
mod RanLemmas
