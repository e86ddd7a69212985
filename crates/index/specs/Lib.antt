-- The index of a table's nodes, and what the code's own values say. Assumes nothing: these are definitions.
pub mod Index
pub mod Code
