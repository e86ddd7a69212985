-- Trees, uses, rules, terms, abstraction and the two runs. Assumes nothing: these are definitions.
pub mod Tree
pub mod Uses
pub mod Rules
pub mod Term
pub mod Bytes
pub mod Abstraction
pub mod Equations
pub mod Runs
