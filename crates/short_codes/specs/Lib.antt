-- Values, the codes of trees, and what is claimed of them. Assumes nothing: these are definitions.
pub mod Values
pub mod ShortCodes
pub mod Claims
