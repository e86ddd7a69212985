-- What the code's contracts cite. Assumes nothing: these are definitions.
pub mod Line
