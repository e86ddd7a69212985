-- The laws that the proofs of Apply's functions cite.
pub mod Entered
