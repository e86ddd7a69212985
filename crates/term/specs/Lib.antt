-- What laying out a rule's tree asks. Assumes nothing: these are definitions.
pub mod Code
