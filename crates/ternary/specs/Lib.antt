-- Text, Read and Write. Assumes nothing: these are definitions.
pub mod Text
pub mod Wanted
pub mod Read
pub mod Laying
pub mod Write
pub mod Held
pub mod Lacks
