-- The size of a rule's tree by the weight of its term. Assumes nothing: these are definitions.
pub mod Weight
