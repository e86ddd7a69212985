-- The starred lines, computed.
pub mod Computed
