pub mod Sets
pub mod Sorting
pub mod Keys
pub mod Places
pub mod SortKeys
