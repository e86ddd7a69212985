-- `label_node::label` meets its contract: 1, and the table's length. Assumes nothing.
use Rattle.label_node.proofs.Ways.{long_table, used_above}
use Rattle.label_node.proofs.label.Goals as goal

pub returns-then-n-gt131072 : goal.returns-then-n-gt131072
returns-then-n-gt131072 c = long_table _ _ _ _ c.if-n-gt131072.true

pub returns-then-n-used : goal.returns-then-n-used
returns-then-n-used c = used_above _ _ _ _ c.if-n-gt131072.false c.if-n-used.true
