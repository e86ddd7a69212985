-- The laws that the proofs of the functions of `unlabel` cite.
pub mod Ways
