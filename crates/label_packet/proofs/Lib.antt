-- The laws that the proofs of the program's functions cite.
pub mod Within
