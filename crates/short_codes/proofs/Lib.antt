-- The theorems of values and codes; other crates cite them.
pub mod Numerals
pub mod Listed
pub mod Holding
pub mod Codes
pub mod Outcomes
pub mod Vectors
