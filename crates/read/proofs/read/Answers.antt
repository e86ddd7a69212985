-- `read::read` meets its contract: 1, and the table's length. Assumes nothing.
use native.Mathlib.Omega.{arith}
use Rattle.read.proofs.Ways.{long_table, over_used, long_stack}
use Rattle.read.proofs.read.Goals as goal

pub returns-then-n-gt131072 : goal.returns-then-n-gt131072
returns-then-n-gt131072 c = long_table _ _ _ _ c.if-n-gt131072.true

-- the shortest tables have room in the shortest index
pub read_in-requires : goal.read_in-requires
read_in-requires c = (omega arith, omega arith, omega arith)

pub returns-then-n-used : goal.returns-then-n-used
returns-then-n-used c = over_used _ _ _ _ c.if-n-gt131072.false c.if-n-used.true

pub returns-then-stack-gt65536 : goal.returns-then-stack-gt65536
returns-then-stack-gt65536 c = long_stack _ _ _ _ c.if-n-gt131072.false c.if-stack-gt65536.true
