-- Run, and what is claimed of it. Assumes nothing: these are definitions.
pub mod Run
pub mod Tell
pub mod Claims
