-- `operators::joint_at` meets its contract: each token. Assumes nothing.
use Rattle.grammar.specs.Tokens.{is_ampersand, is_bar, is_arrow}
use Rattle.grammar.proofs.Places.{sign_at}
use Rattle.operators.proofs.joint_at.Goals as goal

pub returns-in-38 : goal.returns-in-38
returns-in-38 c = (sign_at is_ampersand _ _ c.if-words-at.false c.in-38.is, c.if-words-at.false)

pub returns-in-124 : goal.returns-in-124
returns-in-124 c = (sign_at is_bar _ _ c.if-words-at.false c.in-124.is, c.if-words-at.false)

pub returns-in-62 : goal.returns-in-62
returns-in-62 c = (sign_at is_arrow _ _ c.if-words-at.false c.in-62.is, c.if-words-at.false)
