pub mod FirstLemmas
mod Worked
