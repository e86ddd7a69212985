-- The laws that the proofs of the checks cite.
pub mod Ways
