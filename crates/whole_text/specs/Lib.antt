-- What the code's own values say. Assumes nothing: these are definitions.
pub mod Code
