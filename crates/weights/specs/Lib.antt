-- Weights as trees, the operations on them, and what is claimed of these. Assumes nothing: these are definitions.
pub mod Digits
pub mod Weights
pub mod Claims
