-- The laws of runs of words; the crate that lays out a rule's tree cites them too.
pub mod Standing
pub mod Stores
pub mod Runs
pub mod Terms
pub mod Building
