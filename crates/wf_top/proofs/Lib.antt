pub mod FiresLemmas
pub mod LengthLemmas
pub mod DrillLemmas
pub mod Asked
pub mod Outcomes
pub mod Following
pub mod AgainOutcomes
pub mod DrillOutcomes
pub mod SessionOutcomes
pub mod CommandOutcomes
pub mod Spoken
pub mod Completeness
pub mod DrillWhole
pub mod AgainWhole
pub mod Alike
pub mod TalkLemmas
pub mod Opening
pub mod TalkBegun
pub mod HeldTalks
pub mod Talking
pub mod NoTalk
mod Worked
mod WorkedList
mod WorkedAgain
mod WorkedSession
