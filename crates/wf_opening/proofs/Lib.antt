mod BranchLemmas
mod DecisionRows
mod FitLemmas
mod LocalLemmas
mod VerdictRows
