-- The theorems of the grammar.
pub mod Enough
pub mod Complete
pub mod Sound
pub mod Abstractions
pub mod Size
pub mod Spelled
pub mod Text
pub mod TwoKinds
pub mod Names
pub mod Exact
pub mod Vectors
pub mod Places
