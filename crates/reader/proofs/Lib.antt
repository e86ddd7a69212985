-- The laws that the proofs of Read's functions cite.
pub mod Laying
pub mod ReadWays
