-- Laws of the check, one place or one day at a time. Assumes nothing.
pub mod Passing
