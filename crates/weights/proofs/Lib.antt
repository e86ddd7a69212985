-- The theorems of weights; other crates cite them.
pub mod Numbers
pub mod Places
pub mod Trees
pub mod Weights
pub mod Outcomes
pub mod Reading
pub mod Vectors
