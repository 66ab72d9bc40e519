mod Elements
mod DifferenceLemmas
mod RowLemmas
mod RecordLemmas
mod AddressLemmas
mod WorkedRows
