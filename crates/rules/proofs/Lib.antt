-- The laws that the proofs of a use's functions cite.
pub mod Steps
