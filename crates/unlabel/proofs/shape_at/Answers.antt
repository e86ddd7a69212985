-- `unlabel::shape_at` meets its contract: a leaf, a stem or a fork by the node's words. Assumes nothing.
use Rattle.table.proofs.Branches.{leaf_by, stem_by, fork_by}
use Rattle.unlabel.proofs.shape_at.Goals as goal

pub returns-in-0-default : goal.returns-in-0-default
returns-in-0-default c = leaf_by c.requires c.word-a.ensures.0 c.in-0-default.is-0

pub returns-in_default-eq0 : goal.returns-in_default-eq0
returns-in_default-eq0 c = stem_by c.requires c.word-a.ensures.0 c.word-b.ensures.0 c.in_default-eq0.is-0.1 c.in_default-eq0.is-1

pub returns-in_default : goal.returns-in_default
returns-in_default c = fork_by c.requires c.word-a.ensures.0 c.word-b.ensures.0 c.in_default.is-0.1 c.in_default.is-1.1
