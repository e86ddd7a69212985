-- The laws that the proofs of Read's functions cite.
pub mod Ways
