pub mod KeyListLemmas
pub mod OneStand
