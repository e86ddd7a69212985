-- Ways on paper, the terms from which they lead, and what is claimed of them. Assumes nothing: these are definitions.
pub mod Ways
pub mod Claims
