-- What the values of `unlabel`'s code say. Assumes nothing: these are definitions.
pub mod Code
