-- What the contracts of the functions cite. Assumes nothing: these are definitions.
pub mod Code
