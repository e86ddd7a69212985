-- Loads: what is drawn, the digits allowed, the whole outcome, and what is claimed. Assumes nothing: these are definitions.
pub mod Loads
pub mod Claims
