-- The laws of the index, and those that its callers cite.
pub mod Words
pub mod Indexing
pub mod Making
pub mod Ready
