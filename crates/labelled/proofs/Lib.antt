-- The theorems of Label and of `unlabel`; other crates cite them.
pub mod Labelled
pub mod Labels
pub mod Lacks
pub mod Vectors
pub mod Forms
pub mod Unlabels
pub mod After
pub mod UnlabelVectors
