-- The theorems of Apply; other crates cite them.
pub mod States
pub mod Leads
pub mod Cases
pub mod Follows
pub mod Stops
pub mod Told
pub mod Complete
pub mod Vectors
