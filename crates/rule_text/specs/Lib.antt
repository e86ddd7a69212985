-- What the program prints. Assumes nothing: these are definitions.
pub mod Line
