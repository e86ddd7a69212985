-- The theorems of the calculus; other crates cite them.
pub mod Counts
pub mod Unique
pub mod Equations
pub mod Size
pub mod Rule
pub mod Demand3
pub mod Endless
pub mod Vectors
