-- Refusals, nodes and outcomes, two nodes compared, the branches of a node, numbers that ascend, and numbers that are written. Assumes nothing: these are definitions.
pub mod Refusal
pub mod Nodes
pub mod Outcome
pub mod Claims
pub mod Same
pub mod Branches
pub mod Ascending
pub mod Wrote
