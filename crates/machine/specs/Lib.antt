-- What Apply's code leaves of the index. Assumes nothing: these are definitions.
pub mod Code
