pub mod EachLaws
pub mod ExtremeLaws
pub mod Lighter
pub mod DistinctLaws
pub mod CommonItems
pub mod CommonMembers
pub mod IntersectionLaws
pub mod PairedLaws
pub mod CollectedLaws
pub mod ItemLemmas
pub mod ItemsLaws
pub mod UnitedLaws
mod Worked
