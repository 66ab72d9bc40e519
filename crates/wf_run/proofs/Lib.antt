mod LeastLemmas
mod MadeLemmas
