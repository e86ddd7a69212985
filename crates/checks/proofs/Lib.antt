-- The laws that the proofs of the checks cite.
pub mod Entry
pub mod Room
