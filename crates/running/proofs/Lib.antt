-- The theorems of Run; other crates cite them.
pub mod Limit
pub mod Undone
pub mod OneStage
pub mod Outcomes
pub mod Stages
pub mod Checks
pub mod Refused
pub mod Packets
pub mod Labels
pub mod Cleared
pub mod Direct
pub mod Empty
pub mod Complete
