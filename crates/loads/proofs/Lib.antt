-- The theorems of loads, and worked examples. Assumes nothing.
pub mod Lists
pub mod Allowed
pub mod Loads
pub mod Accepted
pub mod Outcomes
pub mod Vectors
