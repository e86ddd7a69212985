-- The laws that the proofs of the functions cite.
pub mod Names
pub mod Operands
pub mod Phrases
pub mod Groups
