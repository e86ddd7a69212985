-- What the check's code tests, one place at a time. Assumes nothing: these are definitions.
pub mod Code
