-- The laws that the proofs of the labelled rule's stages cite.
pub mod Ways
