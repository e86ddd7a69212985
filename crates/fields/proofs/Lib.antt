-- The theorems of the packet; other crates cite them.
pub mod Exact
pub mod Limits
pub mod Labels
pub mod Vectors
