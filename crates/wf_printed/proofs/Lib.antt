mod CostLemmas
mod RefusedLemmas
