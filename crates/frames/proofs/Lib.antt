-- The laws of frames in a stack's words; the crate `rules` cites the first.
pub mod Frames
pub mod Held
