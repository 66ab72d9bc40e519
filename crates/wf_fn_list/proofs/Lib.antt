pub mod PartLemmas
pub mod ChunkLemmas
pub mod RangeLemmas
pub mod MembershipLemmas
pub mod TextLemmas
pub mod WorkedRows
