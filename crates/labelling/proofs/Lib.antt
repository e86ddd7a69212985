-- The theorems of the labelled rule of a packet; other crates cite them.
pub mod Stages
pub mod Refused
pub mod Writes
pub mod Remade
