-- `read::read_in` meets its contract: its array is an empty index for the table, which the check fills. Assumes nothing.
use Rattle.std.proofs.lemmas.Result.{err_from_is_err_and}
use Rattle.read.proofs.Ways.{of_entry, entered}
use Rattle.read.proofs.read_in.Goals as goal

pub returns-in_err-check_in : goal.returns-in_err-check_in
returns-in_err-check_in g c =
    let a = c.args in
    let p = err_from_is_err_and c.from_residual.result c.from_residual.ensures.1 in
    rw (p.1, p.2) (of_entry a.table.now a.used a.stack.now a.text.now _ c.check_in.ensures.0 c.in_err-check_in.was)

pub returns : goal.returns
returns g c =
    let a = c.args in
    entered a.table.now a.used a.stack.now a.text.now _ c.check_in.ensures.0 c.in_ok-check_in.was c.read_text.ensures.0
