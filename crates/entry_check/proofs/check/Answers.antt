-- `entry_check::check` meets its contract: 1, and the table's length. Assumes nothing.
use Rattle.checks.proofs.Entry.{too_long, not_within, long_stack}
use Rattle.entry_check.proofs.check.Goals as goal

pub returns-then-n-gt131072 : goal.returns-then-n-gt131072
returns-then-n-gt131072 c = too_long _ _ _ _ c.if-n-gt131072.true

pub returns-then-not-within : goal.returns-then-not-within
returns-then-not-within c = not_within _ _ _ _ c.if-not-within.true

pub returns-then-stack-gt65536 : goal.returns-then-stack-gt65536
returns-then-stack-gt65536 c = long_stack _ _ _ _ c.if-not-within.false c.if-n-gt131072.false c.if-stack-gt65536.true
