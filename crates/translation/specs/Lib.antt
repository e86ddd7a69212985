-- Translate, and what it lacks where it is refused. Assumes nothing: these are definitions.
pub mod Translate
pub mod Lacks
