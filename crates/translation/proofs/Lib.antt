-- The theorems of Translate; other crates cite them.
pub mod Translates
