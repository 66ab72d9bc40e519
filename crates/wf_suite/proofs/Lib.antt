mod PlaceLemmas
mod WorkedRows
