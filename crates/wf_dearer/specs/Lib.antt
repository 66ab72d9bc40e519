pub mod StateCosts
