-- `rule_size::rule_size` meets its contract: a whole term that begins with an abstraction counts the nodes of its tree. Assumes nothing.
use Rattle.rule_size.proofs.Weights.{too_long, empty, other_first, not_whole, is_rule}
use Rattle.rule_size.proofs.rule_size.Goals as goal
use Rattle.rule_size.proofs.rule_size.Goals.{then-n-gt4096-via-then-n-gt4096, then-n-gt4096-via-else-n-gt4096+then-n-eq0}

pub returns-then-n-gt4096 : goal.returns-then-n-gt4096
returns-then-n-gt4096 c = elim c.then-n-gt4096.branch [
  | then-n-gt4096-via-then-n-gt4096 w ↦ too_long _ w.if-n-gt4096.true
  | then-n-gt4096-via-else-n-gt4096+then-n-eq0 w ↦ empty _ w.if-n-eq0.true
]

pub returns-then-bytes-ne2 : goal.returns-then-bytes-ne2
returns-then-bytes-ne2 c = other_first c.args.bytes.now c.if-bytes-ne2.true

pub returns-then-t-n : goal.returns-then-t-n
returns-then-t-n c = is_rule _ _ c.if-n-eq0.false c.measure-t.ensures c.if-n-gt4096.false c.if-bytes-ne2.false c.if-t-n.true

pub returns : goal.returns
returns c = not_whole _ _ c.if-n-eq0.false c.measure-t.ensures c.if-t-n.false
