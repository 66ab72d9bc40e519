mod TreeFieldLemmas
pub mod ChainLemmas
