-- `translate::translate` meets its contract: 1, and the table's length. Assumes nothing.
use Rattle.translate.proofs.Ways.{refused_long, over_used, long_stack}
use Rattle.translate.proofs.translate.Goals as goal

pub returns-then-n-gt131072 : goal.returns-then-n-gt131072
returns-then-n-gt131072 c = refused_long _ _ _ _ c.if-n-gt131072.true

pub returns-then-n-used : goal.returns-then-n-used
returns-then-n-used c = over_used _ _ _ _ c.if-n-gt131072.false c.if-n-used.true

pub returns-then-stack-gt65536 : goal.returns-then-stack-gt65536
returns-then-stack-gt65536 c = long_stack _ _ _ _ c.if-n-gt131072.false c.if-stack-gt65536.true
