pub mod CellLemmas
pub mod ChunkLemmas
pub mod SearchLemmas
pub mod TakenLemmas
