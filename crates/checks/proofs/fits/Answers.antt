-- `checks::fits` meets its contract: each test of 1. Assumes nothing.
use mathlib.Core.Path.{sym}
use Rattle.checks.proofs.Entry.{limits_unfit, table_unfit, stack_unfit, used_fits}
use Rattle.checks.proofs.fits.Goals as goal

pub returns-then-not-within : goal.returns-then-not-within
returns-then-not-within c = let a = c.args in sym (limits_unfit a.within a.table.now a.used a.stack.now c.if-not-within.true)

pub returns-then-table-gt131072 : goal.returns-then-table-gt131072
returns-then-table-gt131072 c = let a = c.args in sym (table_unfit a.within a.table.now a.used a.stack.now c.if-table-gt131072.true)

pub returns-then-stack-gt65536 : goal.returns-then-stack-gt65536
returns-then-stack-gt65536 c =
    let a = c.args in
    sym (stack_unfit a.within a.table.now a.used a.stack.now c.if-not-within.false c.if-table-gt131072.false c.if-stack-gt65536.true)

pub returns : goal.returns
returns c =
    let a = c.args in
    used_fits a.within a.table.now a.used a.stack.now c.if-not-within.false c.if-table-gt131072.false c.if-stack-gt65536.false
