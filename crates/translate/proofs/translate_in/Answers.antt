-- `translate::translate_in` meets its contract: its array is an empty index for the table, which the check fills. Assumes nothing.
use Rattle.std.proofs.lemmas.Result.{err_from_is_err_and}
use Rattle.std.proofs.Common.{rules}
use Rattle.translate.proofs.Ways.{refused_entry, short_stack, past_entry}
use Rattle.translate.proofs.translate_in.Goals as goal

pub returns-in_err-check_in : goal.returns-in_err-check_in
returns-in_err-check_in g c =
    let p = err_from_is_err_and c.from_residual.result c.from_residual.ensures.1 in
    let a = c.args in
    rw (p.1, p.2) (refused_entry a.table.now a.used a.stack.now a.bytes.now c.in_err-check_in.ensures.0)

pub translate_rule-requires : goal.translate_rule-requires
translate_rule-requires g c =
    let a = c.args in
    let e = c.in_ok-check_in.ensures in
    (e.1 (search rules), short_stack a.table.now a.used a.stack.now e.0)

pub returns : goal.returns
returns g c =
    let a = c.args in
    past_entry a.table.now a.used a.stack.now a.bytes.now c.in_ok-check_in.ensures.0 c.translate_rule.ensures.0
