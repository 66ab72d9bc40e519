pub mod StandingLemmas
pub mod FirstLemmas
