-- The theorems of text, Read and Write; other crates cite them.
pub mod OneText
pub mod Wanted
pub mod Laying
pub mod Reading
pub mod EachDigit
pub mod Writes
pub mod RoundTrip
pub mod Vectors
