-- The laws of tables; other crates cite them.
pub mod Lists
pub mod Ascending
pub mod Wrote
pub mod Words
pub mod Trees
pub mod Branches
pub mod Making
pub mod Once
pub mod Subtrees
pub mod Entry
pub mod Laid
pub mod Same
pub mod Vectors
