-- The laws of a rule's size; other crates cite those of Sizes.
pub mod Weights
pub mod Sizes
