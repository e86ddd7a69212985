-- Demand 3 in lists of calls, and what it rests on.
pub mod Tables
pub mod Lists
pub mod AsRead
pub mod Vectors
