-- What the stages ask. Assumes nothing: these are definitions.
pub mod Asked
