-- What the code's own values say in terms of the definitions. Assumes nothing: these are definitions.
pub mod Code
