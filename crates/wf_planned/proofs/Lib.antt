mod OrderLemmas
mod NamedLemmas
mod PlannedLemmas
