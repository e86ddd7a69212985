-- A packet and its fields. Assumes nothing: these are definitions.
pub mod Packet
