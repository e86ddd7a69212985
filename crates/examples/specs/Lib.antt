-- The starred lines as rows. Assumes nothing: these are definitions.
pub mod Rows
pub mod Starred
