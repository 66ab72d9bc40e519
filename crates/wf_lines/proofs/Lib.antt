pub mod LineLemmas
mod Worked
