-- The laws that the proofs of Write's functions cite.
pub mod Writing
pub mod Passes
pub mod WriteWays
