-- A week of windows, what is answered of it, how it is lent as numbers, and what is claimed. Assumes nothing: these are definitions.
pub mod Weeks
pub mod Lent
pub mod Claims
