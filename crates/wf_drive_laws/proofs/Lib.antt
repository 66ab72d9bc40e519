pub mod PickLemmas
pub mod LeafLemmas
