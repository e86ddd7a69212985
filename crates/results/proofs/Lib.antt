-- The theorems of the machine, Apply and Run on paper, and an example.
pub mod Machine
pub mod Only
pub mod Vectors
