-- States of the machine as terms, and what is claimed of them, of Apply and of Run. Assumes nothing: these are definitions.
pub mod Terms
pub mod Claims
