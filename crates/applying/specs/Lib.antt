-- The machine, its states, Apply, what it lacks where it is refused, and what it does where it completes. Assumes nothing: these are definitions.
pub mod Machine
pub mod States
pub mod Apply
pub mod Ended
pub mod Lacks
pub mod Claims
