-- The theorems of a week of windows, and worked examples. Assumes nothing.
pub mod Days
pub mod Checks
pub mod Held
pub mod Begins
pub mod Nearest
pub mod Lent
pub mod Vectors
