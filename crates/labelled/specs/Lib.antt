-- Label and `unlabel`, and what is claimed of them. Assumes nothing: these are definitions.
pub mod Label
pub mod Claims
pub mod Unlabel
pub mod UnlabelClaims
