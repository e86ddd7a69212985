-- What the values of Label's code say. Assumes nothing: these are definitions.
pub mod Code
