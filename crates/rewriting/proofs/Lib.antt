-- The theorems of ways on paper; other crates cite them.
pub mod Parallel
pub mod Confluence
pub mod Normal
pub mod Rules
pub mod Vectors
