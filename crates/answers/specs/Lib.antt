-- In which order the numbers of an answer stand. Assumes nothing: these are definitions.
pub mod Listed
