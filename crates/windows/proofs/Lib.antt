-- What the searches find, and laws of the two answers for the ways that their code goes. Assumes nothing.
pub mod Searches
pub mod Firsts
pub mod Ahead
pub mod Ways
