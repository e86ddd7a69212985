-- The week that lent numbers are. Assumes nothing: these are definitions.
pub mod Code
