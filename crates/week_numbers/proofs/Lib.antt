-- What the code's arrays hold. Assumes nothing.
pub mod Made
