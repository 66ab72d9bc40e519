pub mod Paired
pub mod PairedSeen
pub mod Pairing
pub mod Items
pub mod United
pub mod UnitedSeen
