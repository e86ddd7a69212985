-- The labelled rule of a packet, and what is claimed of it. Assumes nothing: these are definitions.
pub mod LabelPacket
pub mod Claims
