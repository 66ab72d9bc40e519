mod CountLemmas
mod RowLemmas
mod LeastRows
