-- The laws that the proofs of the functions of Label cite.
pub mod Ways
