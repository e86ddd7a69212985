-- The law that the proof of `rule_text` cites.
pub mod Lengths
