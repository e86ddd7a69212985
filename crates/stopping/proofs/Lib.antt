-- The theorems of where a run stopped; other crates cite them.
pub mod Following
pub mod OneNext
pub mod Stopping
pub mod Forward
pub mod Exactly
pub mod Ample
pub mod Given
pub mod Further
pub mod Raising
pub mod Limits
pub mod Vectors
