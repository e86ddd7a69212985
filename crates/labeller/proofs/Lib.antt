-- The laws that the proofs of the labelled rule's functions cite.
pub mod Ways
