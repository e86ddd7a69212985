-- What `stopped` gives, the next use on trees, and what is claimed of them. Assumes nothing: these are definitions.
pub mod Stopped
pub mod Next
pub mod Claims
