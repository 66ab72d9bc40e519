pub mod Told
pub mod Differences
pub mod Holds
pub mod Rows
pub mod OfRecord
pub mod OfRecordHolds
pub mod Names
