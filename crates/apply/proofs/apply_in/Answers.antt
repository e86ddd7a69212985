-- `apply::apply_in` meets its contract: its array is an empty index for the table, which the check fills. Assumes nothing.
use Rattle.std.proofs.Common.{rules}
use Rattle.apply.proofs.Entered.{refuse_entry}
use Rattle.apply.proofs.apply_in.Goals as goal

pub returns-in_err-check_in : goal.returns-in_err-check_in
returns-in_err-check_in g c =
    let a = c.args in
    refuse_entry a.table.now a.used a.stack.now a.function a.argument a.limit c.check_in.ensures.0 c.in_err-check_in.was (search rules)
