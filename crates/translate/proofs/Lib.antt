-- The laws that the proofs of Translate's functions cite.
pub mod Ways
