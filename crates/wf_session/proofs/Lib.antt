pub mod CostLemmas
pub mod ScanLemmas
pub mod NextLemmas
pub mod MissingLemmas
pub mod StoodLemmas
pub mod StandsLemmas
pub mod TakenLemmas
