-- What the search for the next beginning finds on a day. Assumes nothing: these are definitions.
pub mod Code
