-- What crosses the boundary. Assumes nothing: these are definitions.
pub mod Boundary
