-- Terms as runs of words. Assumes nothing: these are definitions.
pub mod Words
