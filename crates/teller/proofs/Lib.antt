-- The laws that the proofs of a packet's run cite.
pub mod Ways
